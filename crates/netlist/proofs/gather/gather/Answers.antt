use Rattle.netlist.specs.Faults.{verdict}
use Rattle.netlist.specs.Gathers.{gathered}
use Rattle.netlist.specs.Reads.{coming}
use Rattle.netlist.proofs.Joined.{gathers_more, next_some}
use Rattle.netlist.proofs.gather.gather.Goals as goal

pub loop-all-preserved : goal.loop-all-preserved
loop-all-preserved c =
    gathers_more (verdict c.args.file.now) (gathered c.loop-all.all) (gathered c.add.new.self) c.in-Some.record (coming c.loop-all.reader) (coming c.next.new.self)
    c.loop-all.invariant
    (next_some c.in_ok-record.field-0 c.in-Some.record (coming c.loop-all.reader) (coming c.next.new.self) c.in-Some.is c.in_ok-record.ensures.reads)
    c.in_ok-add.ensures
