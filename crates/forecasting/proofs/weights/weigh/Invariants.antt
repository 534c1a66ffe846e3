use Rattle.std.proofs.Common.{ℕ, ◌/◌, ◌%◌, ◌<◌, length, get_or}
use Rattle.scale.specs.LeastTotal.{least_total}
use Rattle.forecasting.specs.Weights.{Lightest}
use Rattle.forecasting.proofs.weights.weigh.Given as goal

-- the entries so far are filled
abbrev pub invariant-loop-at : goal.invariant-loop-at
invariant-loop-at l = (k : ℕ) → k < l.at → Lightest l.places (length l.places) (k / l.n) (k % l.n) (get_or l.weights k least_total.no_way).sum
