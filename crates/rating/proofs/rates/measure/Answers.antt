use Rattle.rating.proofs.Fitting.{few_places}
use Rattle.rating.proofs.Measuring.{put_few}
use Rattle.rating.proofs.rates.measure.Goals as goal

pub put_numbers-requires-clause-few : goal.put_numbers-requires-clause-few
put_numbers-requires-clause-few c =
    put_few _ _ _ _ _ _ _ _ _ c.rate_graph-rated.ensures (few_places c.args.chip.netlist.now c.args.chip.sizing.now c.args.chip.tested)
