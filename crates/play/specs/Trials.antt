-- What is promised of a run under the netlist's own sizing, and of one under a sizing that was found for a target. Assumes nothing.
use Rattle.std.specs.Prelude.{◌≡◌, ℕ, ◌<◌, ◌≤◌, List, length, None, Ok, Err, Result}
use Rattle.std.specs.Int.{IsInRange}
use Rattle.cores.specs.Rules.{Rules}
use Rattle.netlist.specs.declared.netlist.Netlist.{Netlist}
use Rattle.netlist.specs.declared.refusal.Refusal.{Refusal}
use Rattle.netlist.specs.Holds.{channels, modules}
use Rattle.marked.specs.Rates.{IsRate}
use Rattle.rating.specs.Extended.{graph_of}
use Rattle.counts.specs.Nets.{largest, net_of}
use Rattle.calls.specs.Calls.{Call}
use Rattle.calls.specs.Laws.{FallsBehind, KeepsUp, steps, telling}
use Rattle.run.specs.Making.{chip_of}
use Rattle.sizing.specs.Answers.{SizeAnswer}
use Rattle.sizing.specs.Candidates.{Candidate, Fewest, added}
use Rattle.sizing.specs.Requests.{request_fault}
use Rattle.play.specs.declared.exchange.Exchange.{Exchange}
use Rattle.play.specs.Answers.{answered, calls_of}
use Rattle.play.specs.Kept.{Kept}

-- A run of the netlist n under a sizing, with the rate P/L, over the core set `cores`: the requests xs were answered as ys, the set is `left`
-- at the end, and the item table, which was `before`, is `table`.
pub record Played {C Item State : Type 0} (rules : C → Rules Item State) (held : C → ℕ → State) (n : Netlist) (sizing : List ℕ) (P L : ℕ) (cores left : C) (xs ys : List (Exchange Item)) (before table : List Item) : Type 0 where
  pub answers : ys ≡ answered (chip_of n sizing (rules cores) (held cores)) (length before) xs
  pub same_rules : rules left ≡ rules cores
  pub kept : Kept n sizing P L (rules cores) (held cores) (calls_of (length before) xs) (held left) before table

-- under the sizing u every run falls behind a/b: after enough steps, in each module, and though every step was free
abbrev pub Misses : Netlist → ℕ → ℕ → List ℕ → Type 0
Misses n a b u = (calls : List Call) → telling b (modules n) (largest u) ≤ steps (net_of n u) calls → (v : ℕ) → IsInRange 1 (modules n) v → FallsBehind a b (net_of n u) calls v

-- a sizing was found for the target a/b that adds k slots, and the run was made under it: it keeps up with the target, and under no candidate
-- with fewer slots does a run keep up
pub record Found {C Item State : Type 0} (rules : C → Rules Item State) (held : C → ℕ → State) (n : Netlist) (a b : ℕ) (caps : List ℕ) (allowance : ℕ) (sizing found : List ℕ) (k : ℕ) (cores left : C) (xs ys : List (Exchange Item)) (before table : List Item) : Type 0 where
  pub no_fault : request_fault (channels n) a b caps allowance sizing ≡ None
  pub fewest : Fewest n a b caps allowance sizing k found
  pub P : ℕ
  pub L : ℕ
  pub is_rate : IsRate (graph_of n found) P L
  pub played : Played rules held n found P L cores left xs ys before table
  pub reached : (v : ℕ) → IsInRange 1 (modules n) v → KeepsUp a b (net_of n found) (calls_of (length before) xs) v
  pub fewer_miss : (u : List ℕ) → Candidate sizing caps allowance u → added sizing u < k → Misses n a b u

-- nothing was found, and nothing done; a request without fault is refused because every candidate misses the target
pub record Refuses {C Item : Type 0} (n : Netlist) (a b : ℕ) (caps : List ℕ) (allowance : ℕ) (sizing found : List ℕ) (why : Refusal) (cores left : C) (xs ys : List (Exchange Item)) (before table : List Item) : Type 0 where
  pub answer : SizeAnswer n a b caps allowance sizing found (Err why)
  pub all_miss : request_fault (channels n) a b caps allowance sizing ≡ None → (u : List ℕ) → Candidate sizing caps allowance u → Misses n a b u
  pub cores_kept : left ≡ cores
  pub requests_kept : ys ≡ xs
  pub table_kept : table ≡ before

abbrev pub Tried : {C Item State : Type 0} → (C → Rules Item State) → (C → ℕ → State) → Netlist → ℕ → ℕ → List ℕ → ℕ → List ℕ → List ℕ → C → C → List (Exchange Item) → List (Exchange Item) → List Item → List Item → Result ℕ Refusal → Type 0
Tried rules held n a b caps allowance sizing found cores left xs ys before table (Ok k) = Found rules held n a b caps allowance sizing found k cores left xs ys before table
Tried rules held n a b caps allowance sizing found cores left xs ys before table (Err why) = Refuses n a b caps allowance sizing found why cores left xs ys before table
