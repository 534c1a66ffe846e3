use Rattle.queues.proofs.Gather.{Gathered}
use Rattle.queues.proofs.fires.gather.Given as goal

abbrev pub invariant-loop-e : goal.invariant-loop-e
invariant-loop-e g l =
    let m = g.C.CoreSet in
    Gathered l.initial.channels l.table (m.rules l.initial.cores) (m.held l.initial.cores) l.v.value l.e l.channels (m.rules l.cores) (m.held l.cores)
