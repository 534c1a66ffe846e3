-- The caps of a request, one after another.
use Rattle.std.proofs.Common.{◌≡◌, ℕ, zero, suc, ◌+◌, ◌<◌, List, [], ◌∷◌, length, get_or, Some, None, Ok, Err, Result, refl, ◌∙◌, subst, ⊎_elim, add-zero, arith, eq-eqb, ne_eqb}
use Rattle.std.specs.Int.{IsInRange, IsOutOfRange}
use Rattle.netlist.specs.declared.refusal.Refusal.{Refusal}
use Rattle.netlist.proofs.Letters.{within_false, within_true}
use Rattle.rating.specs.Sizings.{Tested, TestedBytes, sizes_refused}
use Rattle.sizing.specs.Requests.{bad_cap, caps_fault}

-- the first cap out of range
cap_first : (j : ℕ) (qs cs : List ℕ) (k : ℕ) → length cs ≡ length qs → k < length cs → IsOutOfRange (get_or qs k 0) 16 (get_or cs k 0)
    → ((i : ℕ) → i < k → IsInRange (get_or qs i 0) 16 (get_or cs i 0)) → bad_cap j qs cs ≡ Some (sizes_refused (j + k))
cap_first j qs [] k same l bad good = absurd (omega arith)
cap_first j [] (c ∷ cs) k same l bad good = absurd (omega arith)
cap_first j (q ∷ qs) (c ∷ cs) zero same l bad good = rw (within_false q 16 c bad, add-zero j) refl
cap_first j (q ∷ qs) (c ∷ cs) (suc k) same l bad good =
    let at : suc j + k ≡ j + suc k = omega arith in
    rw (within_true q 16 c (good 0 (omega arith)), ← at) (cap_first (suc j) qs cs k (omega arith) (omega arith) bad (λ i h. good (suc i) (omega arith)))

no_bad_cap : (k : ℕ) (qs cs : List ℕ) → length cs ≡ length qs → ((i : ℕ) → i < length cs → IsInRange (get_or qs i 0) 16 (get_or cs i 0)) → bad_cap k qs cs ≡ None
no_bad_cap k [] cs same good = refl
no_bad_cap k (q ∷ qs) [] same good = refl
no_bad_cap k (q ∷ qs) (c ∷ cs) same good = rw (within_true q 16 c (good 0 (omega arith)), no_bad_cap (suc k) qs cs (omega arith) (λ i h. good (suc i) (omega arith))) refl

-- the verdict on a cap table of the right length
caps_sized : (qs cs : List ℕ) → length cs ≡ length qs → caps_fault qs cs ≡ bad_cap 1 qs cs
caps_sized qs cs l = rw (eq-eqb (length cs) (length qs) l) refl

-- the verdict on caps, by what the test of their bytes says, where the least is the present byte
pub caps_tested : (qs cs : List ℕ) (Least : ℕ → ℕ → Type 0) (r : Result (Unit {0}) Refusal) → TestedBytes (length qs) cs Least r
    → ((k q : ℕ) → Least k q → q ≡ get_or qs k 0) → Tested (caps_fault qs cs) r
caps_tested qs cs Least (Ok done) t one =
    caps_sized qs cs t.tested.0 ∙ no_bad_cap 1 qs cs t.tested.0 (λ k h. let p = t.tested.1 k h in subst (λ q. IsInRange q 16 (get_or cs k 0)) (one k p.0 p.1) p.2)
caps_tested qs cs Least (Err x) t one =
    ⊎_elim
    (λ wrong. rw (ne_eqb (length cs) (length qs) wrong.0, wrong.1) refl)
    (λ bad.
    let k = bad.1.0 in
    let p = bad.1.3 in
    let at : 1 + k ≡ k + 1 = omega arith in
    rw (bad.1.2, ← at)
    (caps_sized qs cs bad.0
    ∙ cap_first 1 qs cs k bad.0 bad.1.1 (subst (λ q. IsOutOfRange q 16 (get_or cs k 0)) (one k p.0 p.1) p.2) (λ i h. let g = bad.1.4 i h in subst (λ q. IsInRange q 16 (get_or cs i 0)) (one i g.0 g.1) g.2)))
    t.tested
