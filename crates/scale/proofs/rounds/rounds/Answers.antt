use Rattle.std.proofs.Common.{◌≡◌, ◌<◌, length, ◌∙◌, arith}
use Rattle.scale.specs.Rounds.{AllWalks}
use Rattle.scale.proofs.Choices.{over_next}
use Rattle.scale.proofs.Once.{every_walk_once}
use Rattle.scale.proofs.Order.{any_order}
use Rattle.scale.proofs.rounds.rounds.Goals as goal

pub loop-preserved : goal.loop-preserved
loop-preserved g c = λ v h.
    let within : v < length c.loop.elements = omega arith in
    let one = c.round.ensures v within in
    let next = over_next g.S.Scale.scale c.args.elements.now c.args.weights.now c.loop.elements c.loop.counter v c.loop.auto.elements c.loop.invariant in
    cc

pub returns : goal.returns
returns g c =
    let s = g.S.Scale.scale in
    let es = c.args.elements.now in
    let ws = c.args.weights.now in
    let all : c.loop.counter ≡ c.args.k = omega arith in
    let listed : AllWalks s es ws c.args.k c.loop.elements = λ v l. rw all at (c.loop.invariant v l) in
    record {
      listed = listed;
      every_walk = every_walk_once (length es) c.args.k;
      any_order = λ v l ps each. listed v l ∙ any_order s es ws c.args.k v l ps each;
    }
