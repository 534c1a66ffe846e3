use Rattle.marked.proofs.Shortening.{slow_has_simple, simple_is_short}
use Rattle.marked.proofs.laws.short_cycles_decide.Goals as goal

pub returns : goal.returns
returns c = record { inside = slow_has_simple; short = simple_is_short }
