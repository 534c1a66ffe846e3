use Rattle.std.proofs.Common.{arith}
use Rattle.rating.proofs.Fitting.{fits_as}
use Rattle.rating.proofs.graph.ExtendedGraph.of.Goals as goal

pub invariant_of-result : goal.invariant_of-result
invariant_of-result c =
    let n = c.netlist.result.now in
    record {
      within = omega (arith, c.extend-count.ensures.count, n.few, n.channels.ok.0);
      fit = fits_as n c.sizing.result.now _ _ (cc) c.extend-count.ensures.places (rw (c.netlist.ensures, c.sizing.ensures) c.args.chip.tested);
    }
