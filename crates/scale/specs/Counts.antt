-- What a walk counts as on a scale, and the choice over all walks. Assumes nothing.
use Rattle.std.specs.Prelude.{ℕ, ◌+◌, ◌*◌, List, [], ◌∷◌, map, length, slice_index_or}
use Rattle.scale.specs.Scales.{ScaleOf}
use Rattle.scale.specs.Walks.{walks}

module _ {S : Type 0} (s : ScaleOf S) where
  -- the element that a list has for module u
  abbrev pub element : List S → ℕ → S
  element es u = slice_index_or es u s.no_way

  -- the weight that a table for n modules has for the move from u to v
  abbrev pub weight : List S → ℕ → ℕ → ℕ → S
  weight ws n u v = slice_index_or ws (u * n + v) s.no_way

  -- what a walk comes to that counts as x on reaching module u, and goes on to the modules of a list in order
  abbrev pub onward : List S → ℕ → S → ℕ → List ℕ → S
  onward ws n x u [] = x
  onward ws n x u (v ∷ p) = onward ws n (s.extension x (weight ws n u v)) v p

  -- what a walk counts as: the element of its first module, extended by the weights of its moves in order (a walk is never empty)
  abbrev pub counts : List S → List S → List ℕ → S
  counts es ws [] = s.no_way
  counts es ws (u ∷ p) = onward ws (length es) (element es u) u p

  -- the choice of all elements of a list
  abbrev pub choices : List S → S
  choices [] = s.no_way
  choices (x ∷ xs) = s.choice x (choices xs)

  -- the choice over all walks of k moves that end at v
  abbrev pub over_walks : List S → List S → ℕ → ℕ → S
  over_walks es ws k v = choices (map (counts es ws) (walks (length es) k v))
