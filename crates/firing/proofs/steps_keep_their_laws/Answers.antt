use Rattle.firing.proofs.Steps.{by_rule, safety, least, monotone, local, behind, no_setback}
use Rattle.firing.proofs.steps_keep_their_laws.Goals as goal

pub returns : goal.returns
returns c = record { rule = by_rule; safe = safety; least = least; monotone = monotone; local = local; behind = behind; no_setback = no_setback }
