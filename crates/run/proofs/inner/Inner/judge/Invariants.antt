use Rattle.std.proofs.Common.{◌≡◌, length}
use Rattle.run.specs.Told.{Judged}
use Rattle.run.proofs.inner.Inner.judge.Given as goal

abbrev pub invariant-loop-i : goal.invariant-loop-i
invariant-loop-i l = (length l.fires-items ≡ l.self.modules) × Judged l.self l.fires-items l.i
