-- What a checked netlist promises of every list of calls of a run. Of the calls, t are accepted steps, h of them with a marked module, and x
-- is how often a module has fired; N is the number of modules, and Q the largest queue. Assumes nothing.
use Rattle.std.specs.Prelude.{◌≡◌, ℕ, ◌+◌, ◌-◌, ◌*◌, ◌<◌, ◌≤◌, List, None}
use Rattle.std.specs.Int.{IsInRange}
use Rattle.netlist.specs.declared.netlist.Netlist.{Netlist}
use Rattle.netlist.specs.Holds.{channels, modules}
use Rattle.checking.specs.Nets.{Origin}
use Rattle.checking.specs.Verdicts.{Passed}
use Rattle.marked.specs.Graphs.{Reaches}
use Rattle.rating.specs.declared.rating.Rating.{Rating}
use Rattle.rating.specs.Extended.{graph_of}
use Rattle.rating.specs.Ratings.{HoldsRate}
use Rattle.rating.specs.Sizings.{sizing_fault}
use Rattle.counts.specs.Nets.{Net, largest, net_of}
use Rattle.counts.specs.Origins.{origin}
use Rattle.counts.specs.Steps.{freely}
use Rattle.calls.specs.Calls.{Call, counted}

-- t, h and x after a list of calls
abbrev pub steps : Net → List Call → ℕ
steps net calls = (counted net calls).steps

abbrev pub holds : Net → List Call → ℕ
holds net calls = (counted net calls).held

abbrev pub fired : Net → List Call → ℕ → ℕ
fired net calls v = (counted net calls).firings v

-- going back from a channel through relay stations, one comes to the block that is called its origin
abbrev pub OriginsAreMet : Type 0
OriginsAreMet = (n : Netlist) (sizing : List ℕ) → Passed n → (e : ℕ) → IsInRange 1 (channels n) e → (k : ℕ) × Origin n e k (origin (net_of n sizing) (e - 1))

-- no module is behind where it would be after t - h free steps
abbrev pub NoSetback : Type 0
NoSetback = (n : Netlist) (sizing : List ℕ) → sizing_fault (channels n) sizing ≡ None → (calls : List Call) (v : ℕ) → IsInRange 1 (modules n) v →
    freely (net_of n sizing) (steps (net_of n sizing) calls - holds (net_of n sizing) calls) v ≤ fired (net_of n sizing) calls v

-- nor behind any run of the same netlist and sizing with at most t - h steps
abbrev pub NotBehind : Type 0
NotBehind = (n : Netlist) (sizing : List ℕ) → sizing_fault (channels n) sizing ≡ None → (calls others : List Call) →
    steps (net_of n sizing) others + holds (net_of n sizing) calls ≤ steps (net_of n sizing) calls → (v : ℕ) → IsInRange 1 (modules n) v →
    fired (net_of n sizing) others v ≤ fired (net_of n sizing) calls v

-- a module keeps up with a firings in b steps after these calls: a (t + 1) ≤ b x + a (h + N)
abbrev pub KeepsUp : ℕ → ℕ → Net → List Call → ℕ → Type 0
KeepsUp a b net calls v = a * (steps net calls + 1) ≤ b * fired net calls v + a * (holds net calls + net.modules)

-- it is not far ahead of them: b x ≤ a t + b (N - 1) (Q + 2)
abbrev pub StaysNear : ℕ → ℕ → ℕ → Net → List Call → ℕ → Type 0
StaysNear a b Q net calls v = b * fired net calls v ≤ a * steps net calls + b * ((net.modules - 1) * (Q + 2))

-- it does not keep up, not even if every step was free: b x + a N < a (t + 1)
abbrev pub FallsBehind : ℕ → ℕ → Net → List Call → ℕ → Type 0
FallsBehind a b net calls v = b * fired net calls v + a * net.modules < a * (steps net calls + 1)

-- enough steps to tell: b N (N - 1) (Q + 3) + 1
abbrev pub telling : ℕ → ℕ → ℕ → ℕ
telling b N Q = b * N * (N - 1) * (Q + 3) + 1

abbrev pub net_rated : Rating → Net
net_rated r = net_of r.netlist.now r.sizing.now

-- a rated netlist keeps to its rate P/L
abbrev pub KeepsItsRate : Type 0
KeepsItsRate = (r : Rating) → HoldsRate r → (calls : List Call) (v : ℕ) → IsInRange 1 (modules r.netlist.now) v →
    KeepsUp r.rate.0 r.rate.1 (net_rated r) calls v × StaysNear r.rate.0 r.rate.1 (largest r.sizing.now) (net_rated r) calls v

-- and keeps up with every target a/b that the rate is up to
abbrev pub KeepsTargets : Type 0
KeepsTargets = (r : Rating) → HoldsRate r → (a b : ℕ) → a * r.rate.1 ≤ r.rate.0 * b → (calls : List Call) (v : ℕ) → IsInRange 1 (modules r.netlist.now) v →
    KeepsUp a b (net_rated r) calls v

-- a checked netlist under a sizing that does not reach a/b falls behind it, and that shows after enough steps
abbrev pub MissesTargets : Type 0
MissesTargets = (n : Netlist) (sizing : List ℕ) → Passed n → sizing_fault (channels n) sizing ≡ None → (a b : ℕ) → a ≤ b → (Reaches a b (graph_of n sizing) → ⊥) →
    (calls : List Call) → telling b (modules n) (largest sizing) ≤ steps (net_of n sizing) calls → (v : ℕ) → IsInRange 1 (modules n) v →
    FallsBehind a b (net_of n sizing) calls v
