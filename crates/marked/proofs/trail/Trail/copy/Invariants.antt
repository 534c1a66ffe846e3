use Rattle.std.proofs.Common.{◌+◌}
use Rattle.marked.specs.Rounds.{taken}
use Rattle.marked.proofs.Writes.{Written}
use Rattle.marked.proofs.trail.Trail.copy.Given as goal

-- i places are written
abbrev pub invariant-loop-i : goal.invariant-loop-i
invariant-loop-i l = Written l.start (λ i. taken l.self (l.k + 1 + i)) l.initial.cycle l.i l.cycle
