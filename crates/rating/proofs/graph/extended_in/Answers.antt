use Rattle.rating.proofs.Fitting.{fits_as}
use Rattle.rating.proofs.graph.extended_in.Goals as goal

pub new-requires : goal.new-requires
new-requires c =
    let n = c.netlist.result.now in
    record { fit = fits_as n c.sizing.result.now _ _ (cc) c.extend-count.ensures.places (rw (c.netlist.ensures, c.sizing.ensures) c.args.chip.tested) }
