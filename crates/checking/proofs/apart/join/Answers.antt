use Rattle.std.proofs.Common.{false, length, get_or, arith}
use Rattle.netlist.specs.Holds.{modules}
use Rattle.checking.specs.Nets.{Joined, Joins}
use Rattle.checking.proofs.Fills.{entry_of_module, first_alone}
use Rattle.checking.proofs.apart.join.Goals as goal

pub returns : goal.returns
returns c = λ v h.
    let n = c.args.netlist.now in
    entry_of_module (Joined n 1) c.spread.new.at (modules n) v h
    (λ k lt.
    first_alone (Joins n) c.fill-2.new.self (length c.args.at.now) k (get_or c.spread.new.at k false) (omega (arith, c.requires, n.some.0)) (c.fill-2.ensures.after (λ y e. e)) (c.spread.ensures k lt))
