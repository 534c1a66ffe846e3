use Rattle.run.proofs.Burst.{Burst}
use Rattle.run.proofs.run.Run.fire_all.Given as goal

abbrev pub invariant-loop-i : goal.invariant-loop-i
invariant-loop-i g l =
    let m = g.C.CoreSet in
    Burst l.initial.self.inner (m.rules l.initial.self.cores) (m.held l.initial.self.cores) l.initial.table l.firing l.i l.self.inner (m.rules l.self.cores) (m.held l.self.cores) l.table
