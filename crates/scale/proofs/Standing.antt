-- A list that stands at some place of a list of lists. Assumes nothing.
use Rattle.std.proofs.Common.{◌≡◌, ℕ, ◌<◌, true, cond, eqb, ◌⊎◌, List, [], ◌∷◌, sym, refl, ap, ◌∙◌, subst, inl, inr, ⊎_elim, arith}
use Rattle.std.specs.List.{AllByRecursion}
use Rattle.std.proofs.lemmas.Bool.{cases_Bool, cases_lt, and_parts, and_from, eqb-true, eq-eqb}
use Rattle.scale.specs.Walks.{Walk, EachOnce, same, times}

-- lists that the test finds the same are equal
same_true : (p q : List ℕ) → same p q ≡ true → p ≡ q
same_true [] [] e = refl
same_true [] (y ∷ q) e = cc
same_true (x ∷ p) [] e = cc
same_true (x ∷ p) (y ∷ q) e =
    let h = eqb-true x y (and_parts (eqb x y) (same p q) e).0 in
    let t = same_true p q (and_parts (eqb x y) (same p q) e).1 in
    cc

-- a list that stands at some place is the first, or stands at a place of the rest
pub standing : (p q : List ℕ) (qs : List (List ℕ)) → 0 < times p (q ∷ qs) → (p ≡ q) ⊎ (0 < times p qs)
standing p q qs h =
    ⊎_elim (λ e. inl (same_true p q e)) (λ e. inr (omega (arith, ap {B = ℕ} (λ b. cond b 1 0) e))) (cases_Bool (same p q))

-- and a list is the same as itself
same_itself : (p : List ℕ) → same p p ≡ true
same_itself [] = refl
same_itself (x ∷ p) = and_from (eqb x x) (same p p) (eq-eqb x x refl) (same_itself p)

pub standing_first : (p : List ℕ) (qs : List (List ℕ)) → 0 < times p (p ∷ qs)
standing_first p qs = omega (arith, ap {B = ℕ} (λ b. cond b 1 0) (same_itself p))

-- what holds of all lists of qs holds of one that stands there
standing_all : (P : List ℕ → Type 0) (p : List ℕ) (qs : List (List ℕ)) → 0 < times p qs → AllByRecursion P qs → P p
standing_all P p [] h all = absurd (omega arith)
standing_all P p (q ∷ qs) h all = ⊎_elim (λ e. subst P (sym e) all.0) (λ l. standing_all P p qs l all.1) (standing p q qs h)

-- two lists that have every walk once have each list as often as the other
pub as_often : (n k v : ℕ) (ps qs : List (List ℕ)) → EachOnce n k v ps → EachOnce n k v qs → (p : List ℕ) → times p ps ≡ times p qs
as_often n k v ps qs a b p =
    ⊎_elim
    (λ l. let w = standing_all (Walk n k v) p ps l a.only in a.once p w ∙ sym (b.once p w))
    (λ none. ⊎_elim
    (λ l. let w = standing_all (Walk n k v) p qs l b.only in a.once p w ∙ sym (b.once p w))
    (λ none'. omega arith)
    (cases_lt 0 (times p qs)))
    (cases_lt 0 (times p ps))
