-- Fractions in lowest terms, and how far two of them are apart. Assumes nothing.
use Rattle.std.proofs.Common.{◌≡◌, ℕ, suc, ◌*◌, ◌/◌, ◌%◌, ◌<◌, ◌≤◌, sym, ap, ◌∙◌, subst, mul-le-mul_right, mul_assoc, suc-mul, mul_comm, add-mul, mul-le-mul, lt_of_mul-lt-mul_right, one-mul, div-le_self, mul_right_comm, div-mul-le_self, le_of_mul-le-mul_right, arith}
use Prim.Native.Nat.{◌∣◌}
use native.Mathlib.Nat.{dvd_refl, dvd-zero, le_of_dvd, dvd-mod_iff, dvd_of_mul-dvd-mul_right, eq-one_of_dvd-one, mul-dvd-mul_right, pos_of_dvd_of_pos, div-mul_cancel, lt_of_mul-lt-mul_left, mul-lt-mul_of_pos_left}
use Rattle.std.proofs.lemmas.Nat.{le-div}
use Rattle.marked.specs.Rounds.{Reduced}

-- a and b have the same common divisors as x and y
pub record Alike (x y a b : ℕ) : Type 0 where
  pub down : (d : ℕ) → d ∣ x → d ∣ y → (d ∣ a) × (d ∣ b)
  pub back : (d : ℕ) → d ∣ a → d ∣ b → (d ∣ x) × (d ∣ y)

-- one division more
pub alike_more : (x y a b : ℕ) → Alike x y a b → Alike x y b (a % b)
alike_more x y a b s = record {
  down = λ d h g. let r = s.down d h g in (r.1, (dvd-mod_iff d r.1).1 r.0);
  back = λ d h g. s.back d ((dvd-mod_iff d h).0 g) h;
}

-- where the other number is 0, r is the greatest common divisor
module _ (x y r : ℕ) (s : Alike x y r 0) (some : 0 < y) where
  left : r ∣ x
  left = (s.back r (dvd_refl r) (dvd-zero r)).0

  right : r ∣ y
  right = (s.back r (dvd_refl r) (dvd-zero r)).1

  pub divisor_positive : 0 < r
  divisor_positive = pos_of_dvd_of_pos right some

  pub reduced : Reduced x y (x / r) (y / r)
  reduced = record {
    coprime = λ d h g.
        let up = subst (λ z. d * r ∣ z) x-is (mul-dvd-mul_right d h r) in
        let down = subst (λ z. d * r ∣ z) y-is (mul-dvd-mul_right d g r) in
        eq-one_of_dvd-one (dvd_of_mul-dvd-mul_right d divisor_positive (subst (λ z. d * r ∣ z) (sym (one-mul r)) (s.down (d * r) up down).0));
    same = ap (λ z. x / r * z) (sym y-is) ∙ sym (mul_assoc (x / r) (y / r) r) ∙ mul_right_comm (x / r) (y / r) r ∙ ap (λ z. z * (y / r)) x-is ∙ mul_comm x (y / r);
    positive = le-div 1 y r divisor_positive (omega (arith, le_of_dvd some right, one-mul r));
    short = div-le_self y r;
  }
    where
      x-is : x / r * r ≡ x
      x-is = div-mul_cancel r left

      y-is : y / r * r ≡ y
      y-is = div-mul_cancel r right

-- x/y is below p/l, and p'/l' is x/y
module _ (p l p' l' x y : ℕ) (some : 0 < y) (positive : 0 < l) (positive' : 0 < l') (short : y ≤ 64) (short_l : l ≤ 64) (slow : l * x < p * y) (same : p' * y ≡ l' * x) where
  -- two fractions with denominators of at most 64 are 1/4096 apart at least
  pub fall : 4096 * p' / l' < 4096 * p / l
  fall = le-div (suc q) (4096 * p) l positive (le_of_mul-le-mul_right {k = y} scaled some)
    where
      q : ℕ
      q = 4096 * p' / l'

      -- q * l' ≤ 4096 * p', times y, over l'
      under : q * y ≤ 4096 * x
      under =
          let h : q * l' * y ≤ 4096 * p' * y = mul-le-mul_right y (div-mul-le_self (4096 * p') l') in
          le_of_mul-le-mul_right {k = l'}
          (omega (arith, h, mul_right_comm q l' y, mul_assoc 4096 p' y, same, mul_assoc 4096 x l', mul_comm l' x))
          positive'

      scaled : suc q * l * y ≤ 4096 * p * y
      scaled =
          let room : l * y ≤ 64 * 64 = mul-le-mul short_l short in
          let h : q * y * l ≤ 4096 * x * l = mul-le-mul_right l under in
          omega (arith, room, h, slow, ap (λ z. z * y) (suc-mul q l), add-mul (q * l) l y, mul_right_comm q l y, mul_assoc 4096 x l, mul_comm x l, mul_assoc 4096 p y)

  -- a mean below a target of at most 1 is below 1
  pub below_one : p ≤ l → p' < l'
  below_one h =
      let less : x < y = lt_of_mul-lt-mul_left l (omega (arith, slow, mul-le-mul_right y h)) in
      lt_of_mul-lt-mul_right y (omega (arith, same, mul-lt-mul_of_pos_left {k = l'} less positive'))
