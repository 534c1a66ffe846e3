-- The sizings that a request chooses among, and which of them reach the target. Assumes nothing.
use Rattle.std.specs.Prelude.{◌≡◌, ℕ, ◌+◌, ◌-◌, ◌≤◌, List, [], ◌∷◌, length, slice_index}
use Rattle.marked.specs.Graphs.{Reaches}
use Rattle.netlist.specs.declared.netlist.Netlist.{Netlist}
use Rattle.rating.specs.Extended.{graph_of}

-- t has a byte for each of s, and none is below it
pub record AtLeast (s t : List ℕ) : Type 0 where
  pub lengths : length s ≡ length t
  pub places : (k : ℕ) → slice_index s k ≤ slice_index t k

-- the slots that t has and s has not, over all channels
abbrev pub added : List ℕ → List ℕ → ℕ
added [] t = 0
added (q ∷ s) [] = 0
added (q ∷ s) (r ∷ t) = (r - q) + added s t

-- a candidate has each queue from its present byte to its cap, and at most the allowance of added slots
pub record Candidate (sizing caps : List ℕ) (allowance : ℕ) (t : List ℕ) : Type 0 where
  pub above : AtLeast sizing t
  pub under : AtLeast t caps
  pub few : added sizing t ≤ allowance

-- under the sizing t every cycle's mean is a/b at least: that is, the rate is (Laws)
abbrev pub Reaching : Netlist → ℕ → ℕ → List ℕ → Type 0
Reaching n a b t = Reaches a b (graph_of n t)

-- t is a candidate that reaches the target, it adds k slots, and none that reaches it adds fewer
pub record Fewest (n : Netlist) (a b : ℕ) (caps : List ℕ) (allowance : ℕ) (sizing : List ℕ) (k : ℕ) (t : List ℕ) : Type 0 where
  pub candidate : Candidate sizing caps allowance t
  pub reaches : Reaching n a b t
  pub adds : added sizing t ≡ k
  pub least : (u : List ℕ) → Candidate sizing caps allowance u → Reaching n a b u → k ≤ added sizing u

-- no candidate reaches the target
abbrev pub Unreached : Netlist → ℕ → ℕ → List ℕ → ℕ → List ℕ → Type 0
Unreached n a b caps allowance sizing = (t : List ℕ) → Candidate sizing caps allowance t → Reaching n a b t → ⊥
