use Rattle.std.proofs.Common.{◌≡◌, suc, ◌+◌, ◌-◌, get_or, sym, refl, ap, ◌∙◌, subst, ⊎_elim, arith}
use Rattle.std.proofs.lemmas.Bool.{cases_lt}
use Rattle.marked.specs.Rounds.{stop, taken, Apart, Rounds}
use Rattle.marked.proofs.Back.{setting_out}
use Rattle.marked.proofs.Closing.{closing}
use Rattle.marked.proofs.Pigeons.{pigeons}
use Rattle.marked.proofs.trail.Trail.walk_back.Goals as goal

pub loop-k-init : goal.loop-k-init
loop-k-init c =
    let s = setting_out c.args.weighed c.args.levels.now c.args.peak c.args.top _ c.requires.within c.requires.lowered in
    (refl, omega arith, s.0, s.1, refl)

pub returns-in-Some : goal.returns-in-Some
returns-in-Some c =
    let k = c.loop-k.k - 1 in
    let m = c.lowest-m.result in
    let t = c.step.new.self in
    let top : c.args.peak ≡ t.peak = sym (c.step.ensures.peak ∙ c.loop-k.invariant.0) in
    let found = c.in-Some.ensures in
    let one = c.copy.ensures in
    let two = c.copy-in-Some.ensures in
    let up : k + 1 ≡ suc k = omega arith in
    closing c.args.weighed c.args.levels.now k m c.in-Some.j t (subst (Rounds c.args.weighed c.args.levels.now) top c.requires.rounds) (omega arith)
    c.step.ensures.back (subst (λ x. Apart x t) up c.step.ensures.apart)
    c.lowest-m.ensures.from c.lowest-m.ensures.below found.1 found.2 c.lowest-m.ensures.least
    c.copy-in-Some.new.cycle (omega arith)
    (λ i lt.
    let start : i ≡ 0 + i = omega arith in
    two.below i lt ∙ ap (λ x. get_or c.copy.new.cycle x 0) start ∙ one.written i lt ∙ ap (taken t) (let e : m + 1 + i ≡ suc (m + i) = omega arith in e))
    (λ i lt. two.written i lt ∙ ap (taken t) (let e : k + 1 + i ≡ suc (k + i) = omega arith in e))
    c.args.cycle.now
    (λ i h. two.above i (omega (arith, c.lowest-m.ensures)) ∙ one.above i (omega (arith, c.lowest-m.ensures)) ∙ ap (λ l. get_or l i 0) c.loop-k.invariant.4)

pub returns : goal.returns
returns c =
    let i = c.loop-k.invariant in (
      ⊎_elim (λ lt. lt)
          (λ ge.
          absurd (pigeons c.args.weighed.graph.modules (stop c.loop-k.trail)
          (λ x h. i.2.inside x (omega arith) (omega arith))
          (λ x y lt h e. i.3 x y (omega arith) lt (omega arith) e)))
          (cases_lt c.args.peak c.args.weighed.graph.modules),
      i.4,
    )
