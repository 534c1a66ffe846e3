-- A choice over lists does not depend on the order in which they stand. Assumes nothing.
use Rattle.std.proofs.Common.{◌≡◌, ℕ, ◌<◌, List, [], ◌∷◌, map, length, sym, refl, ap, ◌∙◌, ⊎_elim, arith}
use Rattle.scale.specs.Scales.{ScaleOf}
use Rattle.scale.specs.Walks.{EachOnce, times, walks}
use Rattle.scale.specs.Counts.{choices, counts, over_walks}
use Rattle.scale.proofs.Once.{every_walk_once}
use Rattle.scale.proofs.Standing.{standing, standing_first, as_often}

module _ {S : Type 0} (s : ScaleOf S) (f : List ℕ → S) where
  -- ys is x and zs, in some order: it has their choice, and each list as often
  record Out (x : List ℕ) (ys zs : List (List ℕ)) : Type 0 where
    chosen : choices s (map f ys) ≡ s.choice (f x) (choices s (map f zs))
    often : (p : List ℕ) → times p ys ≡ times p (x ∷ zs)

  -- two that are chosen first may change places
  swapped : (a b c : S) → s.choice a (s.choice b c) ≡ s.choice b (s.choice a c)
  swapped a b c = sym (s.choice_assoc a b c) ∙ ap (λ x. s.choice x c) (s.choice_comm a b) ∙ s.choice_assoc b a c

  -- a list that stands somewhere in ys can be taken out of it
  take_out : (x : List ℕ) (ys : List (List ℕ)) → 0 < times x ys → (zs : List (List ℕ)) × Out x ys zs
  take_out x [] h = absurd (omega arith)
  take_out x (y ∷ ys) h =
      ⊎_elim
      (λ e. (ys, record { chosen = ap (λ q. s.choice (f q) (choices s (map f ys))) (sym e); often = λ p. ap (λ q. times p (q ∷ ys)) (sym e) }))
      (λ l.
      let rest = take_out x ys l in (
        y ∷ rest.0,
        record {
          chosen = ap (s.choice (f y)) rest.1.chosen ∙ swapped (f y) (f x) (choices s (map f rest.0));
          often = λ p. omega (arith, rest.1.often p);
        },
      ))
      (standing x y ys h)

  -- lists in which everything stands equally often have one choice
  same_choices : (xs ys : List (List ℕ)) → ((p : List ℕ) → times p xs ≡ times p ys) → choices s (map f xs) ≡ choices s (map f ys)
  same_choices [] [] e = refl
  same_choices [] (y ∷ ys) e = absurd (omega (arith, e y, standing_first y ys))
  same_choices (x ∷ xs) ys e =
      let out = take_out x ys (omega (arith, e x, standing_first x xs)) in
      ap (s.choice (f x)) (same_choices xs out.0 (λ p. omega (arith, e p, out.1.often p)))
      ∙ sym out.1.chosen

-- so the choice over all walks may be made over any list that has each of them once
pub any_order : {S : Type 0} (s : ScaleOf S) (es ws : List S) (k v : ℕ) → v < length es → (ps : List (List ℕ)) → EachOnce (length es) k v ps → over_walks s es ws k v ≡ choices s (map (counts s es ws) ps)
any_order s es ws k v l ps each =
    same_choices s (counts s es ws) (walks (length es) k v) ps (as_often (length es) k v (walks (length es) k v) ps (every_walk_once (length es) k v l) each)
