use Rattle.std.proofs.Common.{◌≡◌, ◌-◌, false, length, get_or, arith, rules}
use Rattle.netlist.specs.Holds.{modules}
use Rattle.checking.specs.Nets.{Hops}
use Rattle.checking.specs.declared.link.Link.TheVariants.{Relays}
use Rattle.checking.proofs.Fills.{ring_found}
use Rattle.checking.proofs.Held.{step_in}
use Rattle.checking.proofs.rings.is_ringed.Goals as goal

pub returns : goal.returns
returns c =
    let n = c.args.netlist.now in
    let v = c.args.v in
    let at = c.step_from.new.at in
    let long : length at ≡ modules n = search rules in
    ring_found (Hops n) at (modules n) v (get_or c.spread.new.at (v - 1) false) long c.requires.in_range (step_in Relays n) c.step_from.ensures (c.spread.ensures (v - 1) (omega (arith, c.requires.in_range.0, c.requires.in_range.1)))
