-- The yes/no scale, and what the choice over all walks says on it. Assumes nothing.
use Rattle.std.specs.Prelude.{◌≡◌, ℕ, Bool, true, false, ◌&&◌, ◌||◌, List, length, refl}
use Rattle.std.proofs.Math.Bool.{or_comm, or_assoc, and-false, and-or_distrib_right}
use Rattle.scale.specs.Scales.{ScaleOf}
use Rattle.scale.specs.Walks.{Walk}
use Rattle.scale.specs.Counts.{counts}

abbrev pub yes_no : ScaleOf Bool
yes_no = record {
  no_way = false;
  start = true;
  choice = λ x y. x || y;
  extension = λ x w. x && w;
  choice_comm = or_comm;
  choice_assoc = or_assoc;
  no_way_choice = λ x. refl;
  extension_choice = and-or_distrib_right;
  no_way_extension = λ w. refl;
  extension_no_way = and-false;
}

-- r says whether some walk of k moves that ends at v counts as yes
pub record SomeWalk (es ws : List Bool) (k v : ℕ) (r : Bool) : Type 0 where
  pub found : r ≡ true → (p : List ℕ) × Walk (length es) k v p × (counts yes_no es ws p ≡ true)
  pub none_missed : (p : List ℕ) → Walk (length es) k v p → counts yes_no es ws p ≡ true → r ≡ true
