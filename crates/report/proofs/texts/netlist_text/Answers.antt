use Rattle.std.proofs.Common.{inr}
use Rattle.report.specs.Files.{sizes_of}
use Rattle.report.specs.Texts.{NetlistText}
use Rattle.report.proofs.Printed.{check_told}
use Rattle.report.proofs.texts.netlist_text.Goals as goal

pub returns-in_err-checked : goal.returns-in_err-checked
returns-in_err-checked c =
    let file = c.args.file.now in
    check_told (NetlistText file.netlist (sizes_of file)) file.netlist _ _ c.in_err-checked.field-0.0 (λ text h. inr h) c.netlist.ensures c.in_err-checked.ensures c.from_residual.ensures.1
