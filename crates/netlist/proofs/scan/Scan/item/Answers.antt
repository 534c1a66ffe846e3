use Rattle.std.proofs.Common.{refl}
use Rattle.std.proofs.lemmas.Result.{err_from_is_err_and}
use Rattle.netlist.proofs.Sections.{refused, shorter, taken}
use Rattle.netlist.proofs.scan.Scan.item.Goals as goal

pub returns-in_err-record-clause-takes : goal.returns-in_err-record-clause-takes
returns-in_err-record-clause-takes c =
    let p = err_from_is_err_and c.from_residual.result c.from_residual.ensures.1 in
    let scan = c.args.self.now in
    rw (p.1, p.2) (refused scan.section scan.left scan.rest.now _ c.requires c.in_err-record.ensures, refl)

pub returns-clause-takes : goal.returns-clause-takes
returns-clause-takes c =
    let scan = c.args.self.now in
    taken scan.section scan.left scan.rest.now _ _ c.requires c.in_ok-record.ensures.0

pub returns-clause-shorter : goal.returns-clause-shorter
returns-clause-shorter c = shorter c.args.self.now.section _ _ _ c.in_ok-record.ensures.0
