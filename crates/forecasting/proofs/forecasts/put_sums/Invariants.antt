use Rattle.std.proofs.Common.{◌≡◌, ℕ, ◌<◌, ◌≤◌, get_or}
use Rattle.scale.specs.Counts.{element}
use Rattle.scale.specs.LeastTotal.{least_total}
use Rattle.forecasting.proofs.forecasts.put_sums.Given as goal

-- the sums so far are put, and nothing behind them
abbrev pub invariant-loop-at : goal.invariant-loop-at
invariant-loop-at l =
    ((v : ℕ) → v < l.at → get_or l.sums v 0 ≡ (element least_total l.totals v).sum) × ((v : ℕ) → l.at ≤ v → get_or l.sums v 0 ≡ get_or l.initial.sums v 0)
