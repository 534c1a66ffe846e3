-- Words of the trials, which only private contracts cite. Assumes nothing.
use Rattle.std.specs.Prelude.{◌≡◌, ℕ, ◌+◌, ◌*◌, ◌%◌, ◌≤◌, List, length, take, Some, None, Option, slice_index}
use Rattle.netlist.specs.declared.netlist.Netlist.{Netlist}
use Rattle.netlist.specs.Holds.{channels}
use Rattle.rating.specs.Sizings.{sizing_fault}
use Rattle.sizing.specs.Candidates.{AtLeast, Candidate, Reaching}

-- no cap is above 16
abbrev pub Low : List ℕ → Type 0
Low caps = (k : ℕ) → slice_index caps k ≤ 16

-- trials may start at this table: it is a sizing under the caps
pub record Ready (n : Netlist) (caps sizes : List ℕ) : Type 0 where
  pub sized : sizing_fault (channels n) sizes ≡ None
  pub under : AtLeast sizes caps

-- trials answer a candidate that reaches the target, in the front of a table for as many channels as there can be, or that there is none
abbrev pub Verdict : Netlist → ℕ → ℕ → List ℕ → List ℕ → ℕ → Option (List ℕ) → Type 0
Verdict n a b caps sizes slots (Some t) = Reaching n a b (take (length sizes) t) × Candidate sizes caps slots (take (length sizes) t)
Verdict n a b caps sizes slots None = (t : List ℕ) → Candidate sizes caps slots t → Reaching n a b t → ⊥

-- the place p of the extended graph leads back along a channel: a slot more for channel p / 2 + 1 is a token more for it
abbrev pub Backward : ℕ → Type 0
Backward p = p % 2 ≡ 1

-- a walk of l places and x tokens lacks k tokens for the target: with so many more its mean is a/b at least, and not with fewer
pub record Lacks (a b l x k : ℕ) : Type 0 where
  pub enough : a * l ≤ b * (x + k)
  pub least : (y : ℕ) → a * l ≤ b * (x + y) → k ≤ y
