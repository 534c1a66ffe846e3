use Rattle.counts.proofs.Readiness.{room, tests_ready}
use Rattle.counts.proofs.Bridges.{freely_alike, ready_alike, steps_alike}
use Rattle.counts.proofs.Joining.{in_one_piece, in_one_piece_at_largest}
use Rattle.counts.proofs.Rated.{rating_knows}
use Rattle.counts.proofs.netlists_fire_as_their_graphs.Goals as goal

pub returns : goal.returns
returns c = record {
  tested = tests_ready;
  room = room;
  ready = ready_alike;
  step = steps_alike;
  freely = freely_alike;
  connected = in_one_piece;
  largest = in_one_piece_at_largest;
  rated = rating_knows;
}
