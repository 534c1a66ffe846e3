use Rattle.std.proofs.Common.{◌≡◌, ℕ, ◌≤◌, List, ℤ, length, take, refl, sym, ap, ◌∙◌, subst₂, arith}
use Rattle.std.proofs.lemmas.Grind.{common_steps}
use native.Mathlib.Nat.{sub-zero}
use Rattle.marked.specs.declared.place.Place.{Place}
use Rattle.marked.specs.Answers.{Measured}
use Rattle.marked.specs.Graphs.{tokens_on}
use Rattle.marked.proofs.Rating.{sought_none, sought_more, sought_falls}
use Rattle.marked.proofs.rates.rate.Goals as goal

pub loop-found-init : goal.loop-found-init
loop-found-init c = (sought_none _ _ _ _ _ c.args.graph.some.0 c.one-target.ensures.a c.one-target.ensures.b, refl, refl)

-- the list of the search has room for every module
room : (c : goal.After-mean-target) → c.args.graph.modules ≤ length c.slow_cycle.new.cycle
room c = omega (arith, c.slow_cycle.auto.cycle, c.loop-found.invariant, c.args.graph.some)

-- the tokens counted are those of the cycle found
sum : (c : goal.After-mean-target) → c.tokens_on-tokens.result ≡ tokens_on c.args.graph.places.now (take c.in-Some.found c.slow_cycle.new.cycle)
sum c = c.tokens_on-tokens.ensures ∙ ap (λ m. tokens_on c.args.graph.places.now (take m c.slow_cycle.new.cycle)) (sub-zero c.in-Some.found)

pub loop-found-smaller : goal.loop-found-smaller
loop-found-smaller c = sought_falls _ _ _ _ _ _ c.loop-found.invariant.0 _ _ _ _ _ _ c.args.graph.some.1 (room c) c.in-Some.ensures.0 (sum c) c.mean-target.ensures

pub loop-found-preserved : goal.loop-found-preserved
loop-found-preserved c = (
  sought_more _ _ _ _ _ _ c.loop-found.invariant.0 _ _ _ _ _ _ c.args.graph.some.1 (room c) c.in-Some.ensures.0 (sum c) c.mean-target.ensures,
  c.in-Some.ensures.1 ∙ c.loop-found.invariant.1,
  c.slow_cycle.auto.cycle ∙ c.loop-found.invariant.2,
)

-- the rate as the target's fraction
as_fraction : (n : ℕ) (G : List Place) (p l p' l' k : ℕ) (vs vs' : List ℤ) (cs cs' : List ℕ) → p' ≡ p → l' ≡ l → Measured n G p l k vs vs' cs cs' → Measured n G p' l' k vs vs' cs cs'
as_fraction n G p l p' l' k vs vs' cs cs' a b m = subst₂ (λ x y. Measured n G x y k vs vs' cs cs') (sym a) (sym b) m

pub returns : goal.returns
returns c = as_fraction _ _ _ _ _ _ _ _ _ _ _ c.fraction.ensures.a c.fraction.ensures.b (grind (arith, common_steps))
