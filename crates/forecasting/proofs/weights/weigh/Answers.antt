use Rattle.std.proofs.Common.{arith}
use Rattle.forecasting.proofs.Tables.{table_filled}
use Rattle.forecasting.proofs.weights.weigh.Goals as goal

pub returns : goal.returns
returns c = table_filled c.args.places.now c.args.n c.loop-at.weights c.loop-at.at (omega (arith, c.requires.room)) c.loop-at.invariant
