-- The products that the bounds turn on, over plain numbers. Assumes nothing.
use Rattle.std.proofs.Common.{◌≡◌, ℕ, ◌+◌, ◌-◌, ◌*◌, ◌<◌, ◌≤◌, ap, inl, inr, mul-le-mul_right, mul-le-mul_left, arith}
use native.Mathlib.Nat.{le_of_mul-le-mul_left, lt_of_mul-lt-mul_left}
use Rattle.std.proofs.lemmas.Bool.{cases_lt}

-- a/b ≤ P/L ≤ x/e
ratio : (P L a b x e : ℕ) → 0 < L → a * L ≤ P * b → P * e ≤ L * x → a * e ≤ b * x
ratio P L a b x e positive rate most =
    le_of_mul-le-mul_left {k = L} (omega (arith, mul-le-mul_right e rate, mul-le-mul_left b most)) positive

-- what keeps up with P/L keeps up with a smaller a/b
pub slower : (P L a b x t h : ℕ) → 0 < L → a * L ≤ P * b → P * t ≤ L * x + P * h → a * t ≤ b * x + a * h
slower P L a b x t h positive rate most =
    elim (cases_lt t h) [
      | inl less ↦ (let le : t ≤ h = omega arith in omega (arith, mul-le-mul_left a le))
      | inr le ↦
          let e : t ≡ h + (t - h) = omega arith in
          let gap : P * (t - h) ≤ L * x = omega (arith, ap (λ k. P * k) e) in
          omega (arith, ap (λ k. a * k) e, ratio P L a b x (t - h) positive rate gap)
    ]

-- what stays near the mean M/K stays near the same fraction in lowest terms
pub reduced : (P L K M t x m Q : ℕ) → 0 < K → P * K ≡ L * M → K * x ≤ M * t + K * (m * (Q + 1)) → L * x ≤ P * t + L * (m * (Q + 2))
reduced P L K M t x m Q some rate most =
    le_of_mul-le-mul_left {k = K} (omega (arith, mul-le-mul_left L most, ap (λ k. k * t) rate)) some

-- what stays near M/K falls behind a greater a/b
pub overtaken :
    (M K Q a b x t m n : ℕ) → n ≡ m + 1 → K ≤ n → a ≤ b → b * M < a * K → b * n * m * (Q + 3) + 1 ≤ t → K * x ≤ M * t + K * (m * (Q + 1)) →
    b * x + a * n < a * (t + 1)
overtaken M K Q a b x t m n size short less slow late most =
    let less_by_K : K * (b * x + a * m) < K * (a * t) = omega (arith, mul-le-mul_left b most, mul-le-mul_right t slow, mul-le-mul_right (K * m) less, mul-le-mul_right (b * m * (Q + 3)) short) in
    omega (arith, lt_of_mul-lt-mul_left K less_by_K, ap (λ k. a * k) size)
