use Rattle.std.proofs.Common.{rules, tests}
use Rattle.std.proofs.lemmas.Iterator.{YieldsList-from_slice, cases_from_any}
use Rattle.checking.specs.Links.{Takes}
use Rattle.checking.proofs.Held.{some_step}
use Rattle.checking.proofs.link.Link.steps.Goals as goal

pub returns : goal.returns
returns c =
    let n = c.args.netlist.now in
    let xs = c.channels.result.now in
    some_step c.args.self n xs c.args.u c.args.v c.any.result c.channels.ensures
    (cases_from_any _ _ _ (λ x. Takes c.args.self n x c.args.u c.args.v) (λ x. Takes c.args.self n x c.args.u c.args.v → ⊥) c.any.ensures.ran (YieldsList-from_slice xs cc) (λ x q k. search (rules, tests)) (λ x q k. search (rules, tests)))
