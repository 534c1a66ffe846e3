use Rattle.std.proofs.Common.{◌≡◌, rules, tests}
use Rattle.std.proofs.lemmas.Iterator.{first_from_Range}
use Rattle.marked.specs.Rounds.{stop}
use Rattle.marked.proofs.trail.Trail.find.Goals as goal

pub returns : goal.returns
returns c =
    let t = c.args.self.now in
    let k = c.args.k in
    search (rules, first_from_Range _ _ _ c.find.result (λ j. stop t k ≡ stop t j) (λ j. stop t k ≡ stop t j → ⊥) c.find.ensures.ran (λ x q h. search (rules, tests)) (λ x q h. search (rules, tests)))
