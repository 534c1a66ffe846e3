use Rattle.std.proofs.Common.{false, length, get_or, ap, arith}
use Rattle.checking.specs.Links.{Step}
use Rattle.netlist.specs.Holds.{modules}
use Rattle.checking.proofs.Held.{step_in}
use Rattle.checking.proofs.Spreads.{spread_all}
use Rattle.checking.proofs.link.Link.spread.Goals as goal

pub returns : goal.returns
returns c = λ v h.
    let n = c.args.netlist.now in
    spread_all (Step c.args.self n) (modules n) c.args.at.now c.args.table.now c.requires.at_len c.requires.table (step_in c.args.self n)
    _ (omega (arith, ap length c.modules-n.ensures, n.modules.ok.0)) v (get_or c.reach.new.at v false) (c.reach.ensures v (omega (arith, c.requires.at_len)))
