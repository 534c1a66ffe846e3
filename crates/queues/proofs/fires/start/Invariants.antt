use Rattle.queues.proofs.Starting.{Started}
use Rattle.queues.proofs.fires.start.Given as goal

abbrev pub invariant-loop-e : goal.invariant-loop-e
invariant-loop-e g l = let m = g.C.CoreSet in Started l.initial.channels l.initial.table l.blocks (m.rules l.cores).reset l.e l.channels l.table
