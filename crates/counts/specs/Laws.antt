-- The counts of a netlist are those of its extended graph, which numbers modules from 0: module v is module v - 1 there. Assumes nothing.
use Rattle.std.specs.Prelude.{◌≡◌, ℕ, suc, ◌-◌, ◌<◌, ◌≤◌, Bool, true, List, length, replicate, None, slice_index}
use Rattle.std.specs.Int.{IsInRange}
use Rattle.checking.specs.Verdicts.{Passed}
use Rattle.firing.specs.Firings.{Hold, held, free, step, firings}
use Rattle.firing.specs.Firings.{ready as ready_there}
use Rattle.firing.specs.Theorems.{Connected, RatedGraph}
use Rattle.netlist.specs.declared.netlist.Netlist.{Netlist}
use Rattle.netlist.specs.Holds.{channels, modules}
use Rattle.rating.specs.declared.rating.Rating.{Rating}
use Rattle.rating.specs.Extended.{graph_of}
use Rattle.rating.specs.Ratings.{HoldsRate}
use Rattle.rating.specs.Sizings.{sizing_fault}
use Rattle.counts.specs.Nets.{largest, net_of}
use Rattle.counts.specs.Steps.{Ready, freely, is_ready, ready, stepped}

-- the test of readiness says what readiness is
abbrev pub TestsReady : Type 0
TestsReady = (source sink size fills : ℕ → ℕ) (v n : ℕ) →
    (ready source sink size fills v n ≡ true → Ready source sink size fills v n) × (Ready source sink size fills v n → ready source sink size fills v n ≡ true)

-- a module is ready in the netlist exactly if it is in the graph
abbrev pub ReadyAlike : Type 0
ReadyAlike = (n : Netlist) (sizing : List ℕ) → sizing_fault (channels n) sizing ≡ None → (x : ℕ → ℕ) (v : ℕ) → IsInRange 1 (modules n) v →
    is_ready (net_of n sizing) x v ≡ ready_there (graph_of n sizing) (λ k. x (suc k)) (v - 1)

-- so a step of the netlist is a step of the graph, whatever modules are held
abbrev pub StepsAlike : Type 0
StepsAlike = (n : Netlist) (sizing : List ℕ) → sizing_fault (channels n) sizing ≡ None → (holds : ℕ → Bool) (h : Hold) (x : ℕ → ℕ) (v : ℕ) → IsInRange 1 (modules n) v →
    holds v ≡ held h (v - 1) → stepped (net_of n sizing) holds x v ≡ step (graph_of n sizing) h (λ k. x (suc k)) (v - 1)

-- and the firings after free steps are the graph's
abbrev pub FreelyAlike : Type 0
FreelyAlike = (n : Netlist) (sizing : List ℕ) → sizing_fault (channels n) sizing ≡ None → (t v : ℕ) → IsInRange 1 (modules n) v →
    freely (net_of n sizing) t v ≡ firings (graph_of n sizing) (replicate t free) (v - 1)

-- the graph of a checked netlist is in one piece, and Q bounds its tokens where it bounds the queues
abbrev pub InOnePiece : Type 0
InOnePiece = (n : Netlist) (sizing : List ℕ) → Passed n → sizing_fault (channels n) sizing ≡ None →
    (Q : ℕ) → ((e : ℕ) → e < length sizing → slice_index sizing e ≤ Q) → Connected (modules n) (graph_of n sizing) Q

-- as the largest queue does
abbrev pub InOnePieceAtLargest : Type 0
InOnePieceAtLargest = (n : Netlist) (sizing : List ℕ) → Passed n → sizing_fault (channels n) sizing ≡ None → Connected (modules n) (graph_of n sizing) (largest sizing)

-- a rating knows of the graph what the bounds at its rate ask for
abbrev pub RatingKnows : Type 0
RatingKnows = (r : Rating) → HoldsRate r → RatedGraph (modules r.netlist.now) (graph_of r.netlist.now r.sizing.now) r.rate.0 r.rate.1
