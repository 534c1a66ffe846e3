use Rattle.calls.proofs.Tracing.{origins_are_met}
use Rattle.calls.proofs.channels_have_origins.Goals as goal

pub returns : goal.returns
returns c = origins_are_met
