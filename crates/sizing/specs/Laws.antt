-- What it is to reach a target, said of the rate. Assumes nothing.
use Rattle.std.specs.Prelude.{ℕ, ◌*◌, ◌≤◌, List}
use Rattle.marked.specs.declared.place.Place.{Place}
use Rattle.marked.specs.Graphs.{Reaches}
use Rattle.marked.specs.Rates.{IsRate}

-- every cycle's mean is a/b at least exactly if the rate p/l is, where a/b is at most 1
abbrev pub RateDecides : Type 0
RateDecides = (G : List Place) (p l a b : ℕ) → IsRate G p l → a ≤ b → (Reaches a b G → a * l ≤ p * b) × (a * l ≤ p * b → Reaches a b G)
