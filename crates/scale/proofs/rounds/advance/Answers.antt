use Rattle.std.proofs.Common.{◌≡◌, ◌+◌, ◌*◌, ◌<◌, length, take, drop, get_or, ap, ◌∙◌, arith}
use Rattle.std.proofs.lemmas.List.{get_or_read, get_or-take, get_or-drop, drop-drop}
use Rattle.scale.specs.Counts.{element, weight}
use Rattle.scale.proofs.Choices.{arrival_more}
use Rattle.scale.proofs.rounds.advance.Goals as goal

pub loop-from-preserved : goal.loop-from-preserved
loop-from-preserved g c =
    let s = g.S.Scale.scale in
    let es = c.args.elements.now in
    let ws = c.args.weights.now in
    let u = c.loop-from.from-index in
    let n = length es in (
      λ v l.
          let within : v < length c.loop-from.next = omega arith in
          let came = c.depart.ensures v within in
          let before = c.loop-from.invariant.0 v l in
          let from = get_or_read _ _ _ c.loop-from-test.true c.from-item.is s.no_way in
          let row : c.split_at.result.0.now ≡ take n (drop (u * n) ws) = rw (← c.loop-from.invariant.1) c.split_at.ensures.front in
          let weighs : element s c.split_at.result.0.now v ≡ weight s ws n u v =
          ap (λ r. get_or r v s.no_way) row ∙ get_or-take n (drop (u * n) ws) v s.no_way l ∙ get_or-drop (u * n) ws v s.no_way in
          let more = arrival_more s es ws v u in
          cc,
      let next : u * n + n ≡ (u + 1) * n = omega arith in
          c.split_at.ensures.back ∙ ap (drop n) c.loop-from.invariant.1 ∙ drop-drop n (u * n) ws ∙ ap (λ k. drop k ws) next,
    )
