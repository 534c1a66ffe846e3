use Rattle.std.proofs.Common.{length, sym, refl, ap, ◌∙◌, arith}
use Rattle.netlist.specs.Faults.{nothing}
use Rattle.netlist.specs.Reads.{coming}
use Rattle.netlist.proofs.Joined.{counted_more, gathers_none, no_channel_held, one_channel_held}
use Rattle.netlist.proofs.judge.judge.Goals as goal

pub loop-record-init : goal.loop-record-init
loop-record-init c = (
  omega (arith, ap length c.new-reader.ensures.whole),
  (nothing, sym c.new-reader.ensures.all ∙ gathers_none (coming c.new-reader.result), refl),
)

pub loop-record-preserved-in-Channel : goal.loop-record-preserved-in-Channel
loop-record-preserved-in-Channel c =
    let one = one_channel_held c.in-Some.record c.in-Channel.field-0 c.in-Channel.is in
    counted_more c.args.file.now (coming c.loop-record.reader) _ _ _ c.loop-record.channels _ c.in_ok-record.field-0 c.in-Some.record
    c.loop-record.invariant c.in-Some.is c.in_ok-record.ensures.reads c.in_ok-record.ensures.shorter (omega (arith, one)) (omega (arith, one))

pub loop-record-preserved : goal.loop-record-preserved
loop-record-preserved c =
    let none = no_channel_held c.in-Some.record c.in_default-record.not-Channel in
    counted_more c.args.file.now (coming c.loop-record.reader) _ _ _ c.loop-record.channels _ c.in_ok-record.field-0 c.in-Some.record
    c.loop-record.invariant c.in-Some.is c.in_ok-record.ensures.reads c.in_ok-record.ensures.shorter (omega (arith, none)) (omega (arith, none))
