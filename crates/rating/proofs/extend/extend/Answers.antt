use Rattle.std.proofs.Common.{arith, rules}
use Rattle.rating.proofs.Places.{extend_more}
use Rattle.rating.proofs.extend.extend.Goals as goal

pub loop-at-preserved : goal.loop-at-preserved
loop-at-preserved c = (
  extend_more c.args.netlist.now c.channels-channels.result.now c.args.sizing.now c.loop-at.at c.loop-at.places _ _
      c.channels-channels.ensures c.requires.sized (omega arith) (omega (arith, c.requires.room)) c.places_of.ensures.there c.places_of.ensures.back c.loop-at.invariant.0,
  search rules,
)
