use Rattle.std.proofs.Common.{◌≡◌, ◌<◌, ◌^◌, length, ap, ◌∙◌, arith, rules, tests}
use Rattle.std.proofs.lemmas.List.{get_or_read}
use Rattle.std.proofs.lemmas.Iterator.{YieldsList-from_slice, YieldsList-from_map}
use Rattle.std.proofs.lemmas.Iterator.Consumers.{fits_by_from_yields_list, sum_by_from_yields_List}
use Rattle.std.proofs.lemmas.Iterator.Adapters.{serves_from_places}
use Rattle.marked.specs.Graphs.{at}
use Rattle.marked.proofs.Walks.{tokens_few, tokens_summed}
use Rattle.marked.proofs.rates.tokens_on.Goals as goal

pub sum-requires-clause-can : goal.sum-requires-clause-can
sum-requires-clause-can c =
    let G = c.args.graph.places.now in
    let w = c.args.walk.now in (
      tt,
      serves_from_places (YieldsList-from_slice w cc) (λ x q k. search (rules, tests)) (λ x i h e.
          let inside : x.now < length G = omega (arith, c.requires.inside i h, get_or_read w i x.now h e 0) in
          let same : length c.map.result.f.0.now ≡ length G = ap (λ f. length f.0.now) c.map.ensures.closure in
          (λ _ _ _ _ _ _ _. omega arith, λ _ _ _ _ _ _ _. omega arith)),
    )

pub sum-requires-clause-fits : goal.sum-requires-clause-fits
sum-requires-clause-fits c =
    let G = c.args.graph.places.now in
    let w = c.args.walk.now in
    fits_by_from_yields_list (λ p. (at G p).tokens) w c.map.result (2 ^ 32) (YieldsList-from_map _ _ (YieldsList-from_slice w cc) c.map.ensures.closure (λ x r q k. search (rules, tests))) (omega (arith, tokens_summed G w, tokens_few G c.args.graph.light w c.requires.inside))

pub returns : goal.returns
returns c =
    let G = c.args.graph.places.now in
    let w = c.args.walk.now in
    sum_by_from_yields_List (λ p. (at G p).tokens) w c.map.result c.sum.result c.sum.ensures.ran (YieldsList-from_map _ _ (YieldsList-from_slice w cc) c.map.ensures.closure (λ x r q k. search (rules, tests))) ∙ tokens_summed G w
