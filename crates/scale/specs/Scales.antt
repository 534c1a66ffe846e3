-- What a scale is. Assumes nothing.
use Rattle.std.specs.Prelude.{◌≡◌}

-- The operations of a scale with elements S, and their laws, which are all that a proof about every scale rests on.
-- Laws that a later need adds go by these names: extension-assoc (extending twice is extending once by the extension),
-- extension-choice-right (extending by a choice is the choice of the extensions), start-extension and extension-start (start is neutral).
pub record ScaleOf (S : Type 0) : Type 0 where
  pub no_way : S
  pub start : S
  pub choice : S → S → S
  pub extension : S → S → S
  pub choice_comm : (x y : S) → choice x y ≡ choice y x
  pub choice_assoc : (x y z : S) → choice (choice x y) z ≡ choice x (choice y z)
  pub no_way_choice : (x : S) → choice no_way x ≡ x
  pub extension_choice : (x y w : S) → extension (choice x y) w ≡ choice (extension x w) (extension y w)
  pub no_way_extension : (w : S) → extension no_way w ≡ no_way
  pub extension_no_way : (x : S) → extension x no_way ≡ no_way
