use Rattle.std.proofs.Common.{arith}
use Rattle.firing.proofs.Ring.{rated, connected, cycle, in_turn, with_a_hold}
use Rattle.firing.proofs.ring_meets_the_premises.Goals as goal

pub returns : goal.returns
returns c = record { rated = rated; connected = connected; slow = (cycle, omega arith); in_turn = in_turn; with_a_hold = with_a_hold }
