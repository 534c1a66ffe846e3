use Rattle.std.proofs.Common.{arith}
use Rattle.std.proofs.lemmas.Int.{ints}
use Rattle.marked.proofs.Relaxing.{offered, relaxed_more}
use Rattle.marked.proofs.level.Level.next.Goals as goal

pub loop-i-preserved : goal.loop-i-preserved
loop-i-preserved c =
    relaxed_more c.args.weighed c.args.self.now c.requires.low c.loop-i.i c.loop-i.new c.offer.new.self _ (omega arith) c.loop-i.invariant
    (omega (arith, ints, offered c.args.weighed c.args.self.now c.requires.low c.loop-i.i (omega arith), c.weight.ensures)) c.offer.ensures.other c.offer.ensures.less c.offer.ensures.more
