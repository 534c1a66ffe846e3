-- The least-total scale, and what the choice over all walks says on it. Assumes nothing.
use Rattle.std.specs.Prelude.{◌≡◌, ℕ, ◌+◌, ◌-◌, ◌^◌, ◌<◌, ◌≤◌, min, List, length}
use mathlib.Core.HLevel.{is_prop→PathP}
use Rattle.std.proofs.Math.Bridge.{le_prop}
use Rattle.std.proofs.Common.{arith}
use Rattle.scale.specs.Scales.{ScaleOf}
use Rattle.scale.specs.Walks.{Walk}
use Rattle.scale.specs.Counts.{counts}
use Rattle.scale.specs.declared.elements.Total.{Total}

-- totals of one sum are equal
pub same_sum : (x y : Total) → x.sum ≡ y.sum → x ≡ y
same_sum x y e = λ i. record { sum = e i; fits = is_prop→PathP (λ k. e k < 2 ^ 32) (λ k. le_prop) x.fits y.fits i }

-- that the operations stay below 2^32, kept shut so that goals stay short
pub no_way_fits : 2 ^ 32 - 1 < 2 ^ 32
no_way_fits = omega arith

pub start_fits : 0 < 2 ^ 32
start_fits = omega arith

pub choice_fits : (x y : Total) → min x.sum y.sum < 2 ^ 32
choice_fits x y = omega (arith, x.fits)

pub extension_fits : (n : ℕ) → min n (2 ^ 32 - 1) < 2 ^ 32
extension_fits n = omega arith

abbrev pub least_total : ScaleOf Total
least_total = record {
  no_way = record { sum = 2 ^ 32 - 1; fits = no_way_fits };
  start = record { sum = 0; fits = start_fits };
  choice = λ x y. record { sum = min x.sum y.sum; fits = choice_fits x y };
  extension = λ x w. record { sum = min (x.sum + w.sum) (2 ^ 32 - 1); fits = extension_fits (x.sum + w.sum) };
  choice_comm = λ x y. same_sum _ _ (omega arith);
  choice_assoc = λ x y z. same_sum _ _ (omega arith);
  no_way_choice = λ x. same_sum _ _ (omega (arith, x.fits));
  extension_choice = λ x y w. same_sum _ _ (omega arith);
  no_way_extension = λ w. same_sum _ _ (omega arith);
  extension_no_way = λ x. same_sum _ _ (omega arith);
}

-- r is the least total of a walk of k moves that ends at v
pub record LeastWalk (es ws : List Total) (k v : ℕ) (r : Total) : Type 0 where
  pub found : (p : List ℕ) × Walk (length es) k v p × (counts least_total es ws p ≡ r)
  pub none_less : (p : List ℕ) → Walk (length es) k v p → r.sum ≤ (counts least_total es ws p).sum
