use Rattle.std.proofs.Common.{◌≡◌}
use Rattle.run.specs.Making.{LaidOut}
use Rattle.run.proofs.make.lay.Given as goal

abbrev pub invariant-loop-e : goal.invariant-loop-e
invariant-loop-e l = (l.laid.count ≡ l.e) × LaidOut l.channels l.sizing l.laid.queues l.e l.laid.entries
