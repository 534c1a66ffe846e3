use Rattle.netlist.proofs.Sections.{module_read}
use Rattle.netlist.proofs.splits.split_module.Goals as goal

pub returns : goal.returns
returns c =
    module_read c.args.bytes.now c.in_ok-kind.bytes.now c.in_ok-count.bytes.now c.in_ok-name.bytes.now c.in_ok-name.name.now c.in_ok-kind.kind c.in_ok-count.count
    c.in_ok-kind.ensures c.in_ok-count.ensures c.in_ok-name.ensures
