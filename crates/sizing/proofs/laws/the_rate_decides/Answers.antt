use Rattle.sizing.proofs.Targets.{rate_decides}
use Rattle.sizing.proofs.laws.the_rate_decides.Goals as goal

pub returns : goal.returns
returns c = rate_decides
