use Rattle.std.proofs.Common.{rules}
use Rattle.netlist.specs.Faults.{verdict}
use Rattle.report.specs.Files.{ReadAs}
use Rattle.report.proofs.Printed.{handed_on, read_as, sized, unread}
use Rattle.report.proofs.file.NetlistFile.read.Goals as goal

pub returns-in_err-read : goal.returns-in_err-read
returns-in_err-read c =
    handed_on (ReadAs (verdict c.args.file.now)) c.from_residual-in_err-read.result c.in_err-read.field-0.0 c.from_residual-in_err-read.ensures.1
    (unread c.args.file.now c.in_ok-netlist.netlist c.read.new.netlist _ c.read.new.sizing c.in_err-read.field-0.0 (search rules) c.in_err-read.ensures)

pub invariant_of-result : goal.invariant_of-result
invariant_of-result c =
    record {
      sized = sized c.args.file.now c.in_ok-netlist.netlist c.read.new.netlist _ c.read.new.sizing (search rules) (search rules) c.in_ok-read.ensures;
    }

pub returns : goal.returns
returns c = read_as c.args.file.now c.in_ok-netlist.netlist c.read.new.netlist _ c.read.new.sizing (search rules) (search rules) c.in_ok-read.ensures
