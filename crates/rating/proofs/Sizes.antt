-- The bytes of a sizing, one after another.
use Rattle.std.proofs.Common.{◌≡◌, ℕ, zero, suc, ◌+◌, ◌<◌, Bool, true, false, cond, eqb, List, [], ◌∷◌, length, get_or, Some, None, Ok, Err, Option, Result, refl, ◌∙◌, subst, ⊎_elim, add-zero, arith, eq-eqb, ne_eqb}
use Rattle.std.proofs.lemmas.Bool.Decides.{nat_tests}
use Rattle.std.specs.Int.{IsInRange, IsOutOfRange, is_in_range}
use Rattle.netlist.specs.declared.refusal.Refusal.{Refusal}
use Rattle.netlist.proofs.Letters.{within_false, within_true}
use Rattle.netlist.proofs.Sound.{within_in}
use Rattle.std.proofs.lemmas.Bool.{cases_Bool}
use Rattle.rating.specs.Sizings.{Tested, TestedBytes, bad_size, sizes_refused, sizing_fault}

-- the first byte out of range
pub bad_first : (j : ℕ) (qs : List ℕ) (k : ℕ) → k < length qs → IsOutOfRange 1 16 (get_or qs k 0) → ((i : ℕ) → i < k → IsInRange 1 16 (get_or qs i 0)) → bad_size j qs ≡ Some (sizes_refused (j + k))
bad_first j [] k l bad good = absurd (omega arith)
bad_first j (q ∷ qs) zero l bad good = rw (within_false 1 16 q bad, add-zero j) refl
bad_first j (q ∷ qs) (suc k) l bad good =
    let at : suc j + k ≡ j + suc k = omega arith in
    rw (within_true 1 16 q (good 0 (omega arith)), ← at) (bad_first (suc j) qs k (omega arith) bad (λ i h. good (suc i) (omega arith)))

-- the verdict on a sizing of the right length
pub sized : (e : ℕ) (qs : List ℕ) → length qs ≡ e → sizing_fault e qs ≡ bad_size 1 qs
sized e qs l = rw (eq-eqb (length qs) e l) refl

bad_cons : (k q : ℕ) (qs : List ℕ) → bad_size k (q ∷ qs) ≡ None → (is_in_range 1 16 q ≡ true) × (bad_size (suc k) qs ≡ None)
bad_cons k q qs h =
    ⊎_elim (λ good. (good, rw good at h)) (λ bad. absurd (let z : ◌≡◌ {A = ℕ} 0 1 = cc (rw bad at h) in omega arith)) (cases_Bool (is_in_range 1 16 q))

-- a sizing without fault has a byte from 1 to 16 for each channel
pub sizes_fit : (k : ℕ) (qs : List ℕ) → bad_size k qs ≡ None → (i : ℕ) → i < length qs → IsInRange 1 16 (get_or qs i 0)
sizes_fit k [] h i l = absurd (omega arith)
sizes_fit k (q ∷ qs) h zero l = within_in 1 16 q (bad_cons k q qs h).0
sizes_fit k (q ∷ qs) h (suc i) l = sizes_fit (suc k) qs (bad_cons k q qs h).1 i (omega arith)

pub cond_none : (b : Bool) (o : Option Refusal) (x : Refusal) → cond b o (Some x) ≡ None → (b ≡ true) × (o ≡ None)
cond_none true o x h = (refl, h)
cond_none false o x h = absurd (let z : ◌≡◌ {A = ℕ} 0 1 = cc in omega arith)

pub same_length : (n e : ℕ) → eqb n e ≡ true → n ≡ e
same_length n e h = grind (arith, nat_tests)

pub sizing_fits : (e : ℕ) (qs : List ℕ) → sizing_fault e qs ≡ None → (length qs ≡ e) × ((i : ℕ) → i < length qs → IsInRange 1 16 (get_or qs i 0))
sizing_fits e qs h = let p = cond_none (eqb (length qs) e) (bad_size 1 qs) (sizes_refused 0) h in (same_length (length qs) e p.0, sizes_fit 1 qs p.1)

-- and the other way round
pub bad_none : (k : ℕ) (qs : List ℕ) → ((i : ℕ) → i < length qs → IsInRange 1 16 (get_or qs i 0)) → bad_size k qs ≡ None
bad_none k [] h = refl
bad_none k (q ∷ qs) h = rw (within_true 1 16 q (h 0 (omega arith)), bad_none (suc k) qs (λ i l. h (suc i) (omega arith))) refl

pub sizing_good : (e : ℕ) (qs : List ℕ) → length qs ≡ e → ((i : ℕ) → i < length qs → IsInRange 1 16 (get_or qs i 0)) → sizing_fault e qs ≡ None
sizing_good e qs l h = sized e qs l ∙ bad_none 1 qs h

-- the verdict on a sizing, by what the test of its bytes says, where the least is 1
pub sizing_tested : (e : ℕ) (qs : List ℕ) (Least : ℕ → ℕ → Type 0) (r : Result (Unit {0}) Refusal) → TestedBytes e qs Least r → ((k q : ℕ) → Least k q → q ≡ 1) → Tested (sizing_fault e qs) r
sizing_tested e qs Least (Ok done) t one = sizing_good e qs t.tested.0 (λ k h. let p = t.tested.1 k h in subst (λ q. IsInRange q 16 (get_or qs k 0)) (one k p.0 p.1) p.2)
sizing_tested e qs Least (Err x) t one =
    ⊎_elim
    (λ wrong. rw (ne_eqb (length qs) e wrong.0, wrong.1) refl)
    (λ bad.
    let k = bad.1.0 in
    let p = bad.1.3 in
    let at : 1 + k ≡ k + 1 = omega arith in
    rw (bad.1.2, ← at)
    (sized e qs bad.0
    ∙ bad_first 1 qs k bad.1.1 (subst (λ q. IsOutOfRange q 16 (get_or qs k 0)) (one k p.0 p.1) p.2) (λ i h. let g = bad.1.4 i h in subst (λ q. IsInRange q 16 (get_or qs i 0)) (one i g.0 g.1) g.2)))
    t.tested
