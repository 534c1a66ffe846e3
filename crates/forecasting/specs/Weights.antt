-- Weights of moves, for the contracts of private functions alone. G is a list of places. Assumes nothing.
use Rattle.std.specs.Prelude.{◌≡◌, ℕ, ◌==◌, ◌&&◌, fold, map, min, filter, ◌-◌, ◌^◌, ◌<◌, ◌≤◌, ◌⊎◌, List, length, replicate}
use Rattle.firing.specs.Firings.{firings, free}
use Rattle.marked.specs.declared.place.Place.{Place}
use Rattle.marked.specs.Graphs.{at}
use Rattle.scale.specs.Counts.{element, weight}
use Rattle.scale.specs.LeastTotal.{least_total}
use Rattle.scale.specs.declared.elements.Total.{Total}

-- the place p is one of the first i, and leads from u to v
abbrev pub PlaceFromTo : List Place → ℕ → ℕ → ℕ → ℕ → Type 0
PlaceFromTo G i u v p = (p < i) × ((at G p).from ≡ u) × ((at G p).to ≡ v)

-- r is the least tokens of the first i places that lead from u to v, and of 1 where u is v: a module fires once in a step at most.
-- It is 2 ^ 32 - 1, for no way, where there is neither
pub record Lightest (G : List Place) (i u v r : ℕ) : Type 0 where
  pub stays : u ≡ v → r ≤ 1
  pub bound : (p : ℕ) → PlaceFromTo G i u v p → r ≤ (at G p).tokens
  pub reached : (r ≡ 2 ^ 32 - 1) ⊎ (((u ≡ v) × (r ≡ 1)) ⊎ ((p : ℕ) × PlaceFromTo G i u v p × (r ≡ (at G p).tokens)))

-- the least of d and of the tokens of the places that lead from u to v
abbrev pub least_of : ℕ → ℕ → List Place → ℕ → ℕ
least_of u v G d = fold (λ a t. min a t) d (map (λ (p : Place). p.tokens) (filter (λ (p : Place). p.from == u && p.to == v) G))

-- the table has the weight of each move between n modules
abbrev pub Weights : List Place → ℕ → List Total → Type 0
Weights G n ws = (u v : ℕ) → u < n → v < n → Lightest G (length G) u v (weight least_total ws n u v).sum

-- each module starts at 0
abbrev pub Unfired : List Total → Type 0
Unfired es = (v : ℕ) → v < length es → (element least_total es v).sum ≡ 0

-- the totals are the firings after k free steps
abbrev pub Fired : List Place → ℕ → List Total → Type 0
Fired G k es = (v : ℕ) → v < length es → (element least_total es v).sum ≡ firings G (replicate k free) v
