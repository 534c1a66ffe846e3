use Rattle.std.proofs.Common.{◌≡◌, ◌*◌, ◌/◌, length}
use Rattle.marked.proofs.Rating.{Sought}
use Rattle.marked.proofs.rates.rate.Given as goal

-- the target is 1 or the mean of the last cycle; it falls by 1/4096 at least
abbrev pub invariant-loop-found : goal.invariant-loop-found
invariant-loop-found l =
    Sought l.graph.modules l.graph.places.now l.target.a l.target.b l.length l.slowest
    × (l.potentials ≡ l.initial.potentials)
    × (length l.slowest ≡ 64)

abbrev pub decreases-loop-found : goal.decreases-loop-found
decreases-loop-found l = 4096 * l.target.a / l.target.b
