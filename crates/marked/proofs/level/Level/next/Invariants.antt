use Rattle.marked.specs.Rounds.{Relaxed}
use Rattle.marked.proofs.level.Level.next.Given as goal

-- the places below i are relaxed
abbrev pub invariant-loop-i : goal.invariant-loop-i
invariant-loop-i l = Relaxed l.weighed l.i l.self l.new
