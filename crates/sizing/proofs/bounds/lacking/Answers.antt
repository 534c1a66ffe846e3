use Rattle.sizing.proofs.Charging.{lacks, target_positive}
use Rattle.sizing.proofs.bounds.lacking.Goals as goal

pub returns : goal.returns
returns c =
    let positive = target_positive c.args.target.a c.args.target.b c.args.cycle.length c.args.cycle.tokens c.requires.slow c.args.target.proper in
    lacks c.args.target.a c.args.target.b c.args.cycle.length c.args.cycle.tokens c.requires.slow _ positive (rw (c.fraction-a.ensures.a, c.fraction-a.ensures.b) at c.div_ceil.ensures)
