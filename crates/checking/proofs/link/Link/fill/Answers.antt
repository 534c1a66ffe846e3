use Rattle.std.proofs.Common.{arith}
use Rattle.checking.specs.Links.{Step}
use Rattle.netlist.specs.Holds.{modules}
use Rattle.checking.proofs.Fills.{table_filled}
use Rattle.checking.proofs.link.Link.fill.Goals as goal

pub returns : goal.returns
returns c =
    let n = c.args.netlist.now in
    table_filled (Step c.args.self n) (modules n) c.loop-at.table c.loop-at.at (omega (arith, c.requires)) c.loop-at.invariant
