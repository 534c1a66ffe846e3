-- Numbers that are not all different: n + 1 numbers below n, and how to find two that are the same. Assumes nothing.
use Rattle.std.proofs.Common.{◌≡◌, ℕ, zero, suc, ◌<◌, ◌≤◌, cond, eqb, ◌⊎◌, sym, ap, ◌∙◌, inl, inr, ⊎_elim, arith}
use Rattle.std.proofs.lemmas.Bool.{cases_eq, cond-true, cond-false, eq-eqb, ne_eqb}

-- the last number stands in for the highest, wherever that is
moved : ℕ → (ℕ → ℕ) → ℕ → ℕ
moved n f i = cond (eqb (f i) n) (f (suc n)) (f i)

moved_top : (n : ℕ) (f : ℕ → ℕ) (i : ℕ) → f i ≡ n → moved n f i ≡ f (suc n)
unfolding moved
moved_top n f i e = cond-true _ _ _ (eq-eqb (f i) n e)

moved_other : (n : ℕ) (f : ℕ → ℕ) (i : ℕ) → (f i ≡ n → ⊥) → moved n f i ≡ f i
unfolding moved
moved_other n f i ne = cond-false _ _ _ (ne_eqb (f i) n ne)

-- n + 1 numbers below n are not all different
pub pigeons : (n : ℕ) (f : ℕ → ℕ) → ((i : ℕ) → i ≤ n → f i < n) → ((i j : ℕ) → i < j → j ≤ n → f i ≡ f j → ⊥) → ⊥
pigeons zero f below apart = omega (arith, below 0 (omega arith))
pigeons (suc n) f below apart = pigeons n (moved n f) low far
  where
    low : (i : ℕ) → i ≤ n → moved n f i < n
    low i h =
        ⊎_elim
        (λ e.
        let ne : f (suc n) ≡ n → ⊥ = λ top. apart i (suc n) (omega arith) (omega arith) (e ∙ sym top) in
        omega (arith, moved_top n f i e, below (suc n) (omega arith), ne))
        (λ ne. omega (arith, moved_other n f i ne, below i (omega arith), ne))
        (cases_eq (f i) n)

    far : (i j : ℕ) → i < j → j ≤ n → moved n f i ≡ moved n f j → ⊥
    far i j lt h same =
        ⊎_elim
        (λ ei.
        ⊎_elim
        (λ ej. apart i j lt (omega arith) (ei ∙ sym ej))
        (λ nj. apart j (suc n) (omega arith) (omega arith) (sym (moved_other n f j nj) ∙ sym same ∙ moved_top n f i ei))
        (cases_eq (f j) n))
        (λ ni.
        ⊎_elim
        (λ ej. apart i (suc n) (omega arith) (omega arith) (sym (moved_other n f i ni) ∙ same ∙ moved_top n f j ej))
        (λ nj. apart i j lt (omega arith) (sym (moved_other n f i ni) ∙ same ∙ moved_other n f j nj))
        (cases_eq (f j) n))
        (cases_eq (f i) n)

-- two of the first m numbers are the same
pub record Again (f : ℕ → ℕ) (m : ℕ) : Type 0 where
  pub one : ℕ
  pub other : ℕ
  pub before : one < other
  pub inside : other < m
  pub same : f one ≡ f other

-- one of the first m numbers is x, or none is
met : (f : ℕ → ℕ) (x m : ℕ) → ((i : ℕ) → i < m → f i ≡ x → ⊥) ⊎ ((i : ℕ) × (i < m) × (f i ≡ x))
met f x zero = inl (λ i h e. absurd (omega arith))
met f x (suc m) =
    ⊎_elim
    (λ e. inr (m, omega arith, e))
    (λ ne.
    ⊎_elim
    (λ none. inl (λ i h e. ⊎_elim (λ last. ne (ap f (sym last) ∙ e)) (λ early. none i (omega (arith, early)) e) (cases_eq i m)))
    (λ some. inr (some.0, omega (arith, some.1), some.2))
    (met f x m))
    (cases_eq (f m) x)

-- the first m numbers are all different, or two are the same
pub twice : (f : ℕ → ℕ) (m : ℕ) → ((i j : ℕ) → i < j → j < m → f i ≡ f j → ⊥) ⊎ Again f m
twice f zero = inl (λ i j lt h e. absurd (omega arith))
twice f (suc m) =
    ⊎_elim
    (λ none.
    ⊎_elim
    (λ apart. inl (λ i j lt h e. ⊎_elim (λ last. none i (omega arith) (e ∙ ap f last)) (λ early. apart i j lt (omega (arith, early)) e) (cases_eq j m)))
    (λ a. inr (record { one = a.one; other = a.other; before = a.before; inside = omega (arith, a.inside); same = a.same }))
    (twice f m))
    (λ some. inr (record { one = some.0; other = m; before = some.1; inside = omega arith; same = some.2 }))
    (met f (f m) m)
