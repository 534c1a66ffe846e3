-- The words of one round, for the contracts of private functions alone. Assumes nothing.
use Rattle.std.specs.Prelude.{ℕ, List, map, length}
use Rattle.std.specs.List.{range_with_len}
use Rattle.scale.specs.Scales.{ScaleOf}
use Rattle.scale.specs.Counts.{choices, element, weight}

module _ {S : Type 0} (s : ScaleOf S) (es ws : List S) where
  -- what the move from u brings to v
  abbrev pub brought : ℕ → ℕ → S
  brought v u = s.extension (element s es u) (weight s ws (length es) u v)

  -- what comes to v by one move from one of the first i modules
  abbrev pub arrival_from : ℕ → ℕ → S
  arrival_from v i = choices s (map (brought v) (range_with_len 0 i))

  -- what comes to v by one move
  abbrev pub arrival : ℕ → S
  arrival v = arrival_from v (length es)
