-- The rate of a marked graph: the least of 1 and the means of all cycles, as a fraction. Assumes nothing.
use Rattle.std.specs.Prelude.{◌≡◌, ℕ, ◌*◌, ◌<◌, ◌≤◌, ◌⊎◌, List, length}
use Rattle.std.specs.Int.{◌∣◌}
use Rattle.marked.specs.declared.place.Place.{Place}
use Rattle.marked.specs.Graphs.{Cycle, Simple, LowestFirst, Reaches, tokens_on}

-- no number but 1 divides both
abbrev pub Coprime : ℕ → ℕ → Type 0
Coprime p l = (d : ℕ) → d ∣ p → d ∣ l → d ≡ 1

-- the walk's mean is p/l
abbrev pub Exact : ℕ → ℕ → List Place → List ℕ → Type 0
Exact p l G ps = p * length ps ≡ l * tokens_on G ps

-- p/l is the rate, in lowest terms: at most 1, at most every cycle's mean, and 1 or the mean of some cycle
pub record IsRate (G : List Place) (p l : ℕ) : Type 0 where
  pub coprime : Coprime p l
  pub positive : 0 < l
  pub proper : p ≤ l
  pub bound : Reaches p l G
  pub reached : ((p ≡ 1) × (l ≡ 1)) ⊎ ((ps : List ℕ) × Cycle G ps × Exact p l G ps)

-- a cycle fit to be shown for the rate p/l: its mean is p/l, it passes no module twice, and starts at its lowest module
pub record Shown (p l : ℕ) (G : List Place) (ps : List ℕ) : Type 0 where
  pub cycle : Cycle G ps
  pub simple : Simple G ps
  pub lowest_first : LowestFirst G ps
  pub exact : Exact p l G ps
