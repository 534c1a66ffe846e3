use Rattle.calls.proofs.Bounds.{keeps_its_rate, keeps_targets, misses_targets, no_setback, not_behind}
use Rattle.calls.proofs.calls_keep_their_bounds.Goals as goal

pub returns : goal.returns
returns c = record { setback = no_setback; behind = not_behind; rate = keeps_its_rate; reached = keeps_targets; missed = misses_targets }
