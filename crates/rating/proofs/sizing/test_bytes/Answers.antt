use Rattle.std.proofs.Common.{arith, below_more}
use Rattle.rating.proofs.sizing.test_bytes.Goals as goal

pub loop-at-preserved : goal.loop-at-preserved
loop-at-preserved g c =
    below_more _ c.loop-at.at c.loop-at.invariant (c.least.result, c.least.ensures, (omega (arith, c.if-byte-least.false), omega (arith, c.if-byte-gt16.false)))

pub returns : goal.returns
returns g c = record { tested = (c.if-bytes-channels.false, λ k h. c.loop-at.invariant k (omega (arith, c.loop-at-test.false, h))) }
