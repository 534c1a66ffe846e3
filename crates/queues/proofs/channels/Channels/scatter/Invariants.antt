use Rattle.queues.proofs.Scatter.{Scattered}
use Rattle.queues.proofs.channels.Channels.scatter.Given as goal

abbrev pub invariant-loop-e : goal.invariant-loop-e
invariant-loop-e g l = Scattered l.initial.self l.initial.table l.v l.item l.e l.self l.table
