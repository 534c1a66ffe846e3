-- The rate reaches a target exactly if every cycle's mean does.
use Rattle.std.proofs.Common.{◌≡◌, ℕ, ◌*◌, ◌<◌, ◌≤◌, List, length, take, ap, ⊎_elim, mul-le-mul_right, mul_assoc, mul_comm, mul_right_comm, le_of_mul-le-mul_right, arith}
use Rattle.std.proofs.lemmas.Bool.{cases_lt}
use Rattle.marked.specs.Answers.{Found}
use Rattle.rating.specs.Ratings.{RatedCycle}
use Rattle.marked.specs.declared.place.Place.{Place}
use Rattle.marked.specs.Graphs.{Cycle, tokens_on}
use Rattle.marked.specs.Rates.{Exact}
use Rattle.sizing.specs.Laws.{RateDecides}

-- a walk of k places and x tokens: with the mean p/l, and with a mean of p/l at least
module _ (p l a b k x : ℕ) where
  pub by_mean : 0 < k → p * k ≡ l * x → a * k ≤ b * x → a * l ≤ p * b
  by_mean some exact reach =
      let h : a * k * l ≤ b * x * l = mul-le-mul_right l reach in
      le_of_mul-le-mul_right {k = k}
      (omega (arith, h, mul_right_comm a k l, mul_right_comm p b k, ap (λ z. z * b) exact, mul_assoc b x l, mul_comm b (x * l), mul_comm x l))
      some

  pub by_rate : 0 < l → p * k ≤ l * x → a * l ≤ p * b → a * k ≤ b * x
  by_rate some bound reach =
      let h : a * l * k ≤ p * b * k = mul-le-mul_right k reach in
      let g : p * k * b ≤ l * x * b = mul-le-mul_right b bound in
      le_of_mul-le-mul_right {k = l}
      (omega (arith, h, g, mul_right_comm a l k, mul_right_comm p b k, mul_assoc b x l, mul_comm b (x * l), mul_comm x l))
      some

pub rate_decides : RateDecides
rate_decides G p l a b rate proper = (
  λ reach.
      ⊎_elim
      (λ (one : (p ≡ 1) × (l ≡ 1)). omega (arith, ap (λ z. a * z) one.1, ap (λ z. z * b) one.0))
      (λ (some : (ps : List ℕ) × Cycle G ps × Exact p l G ps). by_mean p l a b (length some.0) (tokens_on G some.0) some.1.some some.2 (reach some.0 some.1))
      rate.reached,
  λ reach ps cycle. by_rate p l a b (length ps) (tokens_on G ps) rate.positive (rate.bound ps cycle) reach,
)

-- a rate below the target has a cycle to show it, and that cycle is slow
pub slow_found : (n : ℕ) (G : List Place) (p l k a b : ℕ) (cs cs' : List ℕ) → a ≤ b → RatedCycle n G p l k cs cs' → p * b < a * l → Found n a b G cs cs' k
slow_found n G p l k a b cs cs' proper h below =
    ⊎_elim (λ one. absurd (omega (arith, mul-le-mul_right l proper, ap (λ z. z * b) one.0, mul_comm l b, below)))
    (λ some. let ps = take k cs' in record {
      cycle = some.2.cycle;
      simple = some.2.simple;
      lowest_first = some.2.lowest_first;
      slow = ⊎_elim (λ lt. lt) (λ ge. absurd (omega (arith, below, by_mean p l a b (length ps) (tokens_on G ps) some.2.cycle.some some.2.exact ge))) (cases_lt (b * tokens_on G ps) (a * length ps));
      short = some.1;
      kept = h.kept;
    }) h.shown
