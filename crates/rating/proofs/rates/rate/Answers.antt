use Rattle.std.proofs.Common.{◌≡◌, ◌∙◌, rules}
use Rattle.checking.proofs.Passes.{passed_of}
use Rattle.rating.proofs.Accepting.{accepted}
use Rattle.rating.proofs.rates.rate.Goals as goal

pub returns : goal.returns
returns c =
    let n = c.args.checked.netlist.now in
    let same : c.in_ok-chip.chip.netlist.now ≡ n = c.in_ok-chip.ensures.0 ∙ c.netlist.ensures in
    let sizes = c.in_ok-chip.ensures.1 in
    accepted _ c.args.cycle.now _ c.args.potentials.now _ n c.args.sizing.now (c.netlist-3.ensures ∙ same) (c.sizing.ensures ∙ sizes)
    (record {
      passed = search (rules, passed_of);
      sized = rw (same, sizes) at c.in_ok-chip.chip.tested;
      space = rw (← same) (search rules);
      room = rw (← same) (search rules);
      rates = rw (same, sizes) at c.measure-rated.ensures;
    })
