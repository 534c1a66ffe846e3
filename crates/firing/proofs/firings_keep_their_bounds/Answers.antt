use Rattle.firing.proofs.Lower.{rated, lower, reached}
use Rattle.firing.proofs.Upper.{upper, average, missed}
use Rattle.firing.proofs.firings_keep_their_bounds.Goals as goal

pub returns : goal.returns
returns c = record {
  rated = rated;
  lower = lower;
  upper = upper;
  average = average;
  reached = reached;
  missed = missed;
}
