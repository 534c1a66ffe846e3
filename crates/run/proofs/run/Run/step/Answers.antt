use Rattle.std.proofs.Common.{◌^◌, ◌<◌, length, refl, arith, rules}
use Rattle.counts.specs.Steps.{fires}
use Rattle.run.proofs.Replying.{step_ok}
use Rattle.run.proofs.Step.{planned, told_step}
use Rattle.run.proofs.run.Run.step.Goals as goal

pub returns-clause-told : goal.returns-clause-told
returns-clause-told g c =
    let m = g.C.CoreSet in
    let s₀ = c.args.self.now in
    let t₀ = c.args.table.now in
    let s₁ = c.fire_all.new.self in
    let small : s₀.inner.steps < 2 ^ 32 = search rules in
    λ ok chip k before td.
    let pl = planned ok before chip k s₀.inner (m.rules s₀.cores) (m.held s₀.cores) t₀ td c.in_ok-after_prime.ensures c.judge.new.firing c.judge.ensures (omega (arith, small, c.if-self-ge-STEPS.false)) in (
      step_ok ok before chip k s₀.inner (m.rules s₀.cores) (m.held s₀.cores) t₀ td (length t₀) c.in_ok-after_prime.ensures c.in_ok-room.ensures c.if-self-ge-STEPS.false,
      told_step ok before chip k s₀.inner (m.rules s₀.cores) (m.held s₀.cores) t₀ td c.in_ok-after_prime.ensures (length t₀) s₁.inner _ (m.rules s₁.cores) (m.held s₁.cores) c.fire_all.new.table c.fire_all.ensures.framed
          (c.fire_all.ensures.told ok before chip k.firings (fires chip.net k.marks k.firings) pl)
          refl refl refl c.unmark.ensures.firings refl refl (λ k lt. c.unmark.ensures.marked k lt),
    )
