use Rattle.std.proofs.Common.{false, true, arith, rules, tests}
use Rattle.std.proofs.lemmas.Iterator.{first_from_Range, serves_from_Range}
use Rattle.checking.proofs.lowest.lowest.Given as given
use Rattle.checking.proofs.lowest.lowest.Goals as goal

pub find-requires-clause-callable : goal.find-requires-clause-callable
find-requires-clause-callable g c =
    serves_from_Range (λ x q k. search (rules, tests))
    (λ x low high. λ y e. c.requires.tests y.now (omega (arith, e), omega (arith, e)))

pub returns : goal.returns
returns g c = record {
  picked = search (rules, first_from_Range _ _ _ c.find.result (λ j. given.F-post g c.args.test j true) (λ j. given.F-post g c.args.test j false) c.find.ensures.ran (λ x q h. search (rules, tests)) (λ x q h. search (rules, tests)));
}
