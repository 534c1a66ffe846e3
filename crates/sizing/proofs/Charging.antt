-- Slow cycles one after another: the tokens that a cycle lacks are slots of its own.
use Rattle.std.proofs.Common.{◌≡◌, ℕ, zero, suc, ◌+◌, ◌-◌, ◌*◌, ◌/◌, ◌%◌, ◌<◌, ◌≤◌, min, List, length, get_or, take, refl, ap, ⊎_elim, mod-lt, zero-mul, mul-one, mul-add, arith}
use native.Mathlib.Nat.{div-add-mod, le_of_mul-le-mul_left, lt_of_mul-lt-mul_left}
use Rattle.std.proofs.lemmas.List.{length-take-le}
use Rattle.std.proofs.lemmas.Bool.{cases_eq}
use Rattle.marked.specs.Answers.{Found}
use Rattle.marked.specs.Graphs.{at, tokens_on}
use Rattle.netlist.specs.declared.netlist.Netlist.{Netlist}
use Rattle.netlist.specs.Holds.{modules}
use Rattle.rating.specs.Extended.{graph_of}
use Rattle.rating.proofs.Measuring.{front_is}
use Rattle.sizing.specs.Candidates.{AtLeast, Reaching, added}
use Rattle.sizing.specs.Trials.{Backward, Lacks, Ready}
use Rattle.sizing.proofs.Deeper.{gain_on}
use Rattle.sizing.proofs.Gains.{gain, gain_charged}

above_zero : (k : ℕ) → (k ≡ 0 → ⊥) → 0 < k
above_zero zero d = absurd (d refl)
above_zero (suc k) d = omega arith

-- a quotient that is rounded up
module _ (b s k : ℕ) (pos : 0 < b) (is : k ≡ s / b + min 1 (s % b)) where
  up_enough : s ≤ b * k
  up_enough =
      ⊎_elim
      (λ (even : s % b ≡ 0). let q : k ≡ s / b = omega arith in omega (arith, div-add-mod s b, ap (λ (z : ℕ). b * z) q))
      (λ (odd : s % b ≡ 0 → ⊥).
      let q : k ≡ s / b + 1 = omega (arith, above_zero (s % b) odd) in
      omega (arith, div-add-mod s b, mod-lt s pos, ap (λ (z : ℕ). b * z) q, mul-add b (s / b) 1, mul-one b))
      (cases_eq (s % b) 0)

  up_least : (y : ℕ) → s ≤ b * y → k ≤ y
  up_least y h =
      ⊎_elim
      (λ (even : s % b ≡ 0).
      let q : s / b ≤ y = le_of_mul-le-mul_left {k = b} (omega (arith, div-add-mod s b)) pos in omega arith)
      (λ (odd : s % b ≡ 0 → ⊥).
      let q : s / b < y = lt_of_mul-lt-mul_left b (omega (arith, div-add-mod s b, above_zero (s % b) odd)) in omega arith)
      (cases_eq (s % b) 0)

module _ (a b l x : ℕ) (slow : b * x < a * l) where
  -- only a target above 0 is missed
  pub target_positive : a ≤ b → 0 < b
  target_positive proper =
      ⊎_elim
      (λ (none : b ≡ 0). let z : a ≡ 0 = omega arith in absurd (omega (arith, slow, ap (λ (i : ℕ). i * l) z, zero-mul l)))
      (λ (some : b ≡ 0 → ⊥). above_zero b some)
      (cases_eq b 0)

  pub lacks : (k : ℕ) → 0 < b → k ≡ (a * l - b * x) / b + min 1 ((a * l - b * x) % b) → Lacks a b l x k
  lacks k pos is =
      record {
        enough = omega (arith, mul-add b x k, up_enough b (a * l - b * x) k pos is);
        least = λ y h. up_least b (a * l - b * x) k pos is y (omega (arith, h, mul-add b x y));
      }

-- one more slow cycle, with all of its queues put at their caps, is as many slots more as it lacks tokens
pub charged : (n : Netlist) (a b : ℕ) (caps sizes r r' before after : List ℕ) (k tokens lack need : ℕ) → Ready n caps r → AtLeast sizes r
    → k ≤ length after → Found (modules n) a b (graph_of n r) before after k → tokens ≡ tokens_on (graph_of n r) (take k after) → Lacks a b k tokens lack → AtLeast r r'
    → ((i : ℕ) → i < length (take (k - 0) after) → Backward (get_or (take (k - 0) after) i 0) → get_or caps (get_or (take (k - 0) after) i 0 / 2) 0 ≤ get_or r' (get_or (take (k - 0) after) i 0 / 2) 0)
    → ((t : List ℕ) → AtLeast sizes t → AtLeast t caps → Reaching n a b t → need + added r t ≤ added sizes t)
    → (t : List ℕ) → AtLeast sizes t → AtLeast t caps → Reaching n a b t → need + lack + added r' t ≤ added sizes t
charged n a b caps sizes r r' before after k tokens lack need ready above room found is lacks grown full h t over under good =
    let ps = take k after in
    let l : length r ≡ length t = omega (arith, above.lengths, over.lengths) in
    let long : length ps ≡ k = length-take-le k after room in
    let enough : a * k ≤ b * (tokens + gain r t ps) =
    omega (arith, gain_on n a b caps r ready ps found.cycle t l good, ap (λ (z : ℕ). a * z) long, ap (λ (z : ℕ). b * (z + gain r t ps)) is) in
    let top = rw (front_is k after) at full in
    omega (
      arith,
      h t over under good,
      lacks.least (gain r t ps) enough,
      gain_charged ps r t r' (λ i j m w same. found.simple i j m w (ap (λ (p : ℕ). (at (graph_of n r) p).from) same)) grown
          (λ i m back. let c = top i m back in omega (arith, under.places (get_or ps i 0 / 2))),
    )
