use Rattle.marked.proofs.Fractions.{Alike}
use Rattle.marked.proofs.rates.lowest_terms.Given as goal

-- the common divisors are still those of x and y
abbrev pub invariant-loop-rest : goal.invariant-loop-rest
invariant-loop-rest l = Alike l.x l.y l.divisor l.rest

abbrev pub decreases-loop-rest : goal.decreases-loop-rest
decreases-loop-rest l = l.rest
