use Rattle.std.proofs.Common.{◌+◌, Option, sym, ◌∙◌, subst, subst₂, arith}
use Rattle.queues.specs.Holds.{Gives}
use Rattle.queues.specs.declared.channels.Channels.{Channels}
use Rattle.queues.proofs.Gather.{Gathered, gathered_none, gathered_on, gathered_off, gathered_lost, gathered_all}
use Rattle.queues.proofs.fires.gather.Goals as goal
use Rattle.queues.proofs.fires.gather.Goals.{then-channels-e+in-Some, then-channels-e+in_default, else-channels-e}

pub loop-e-init : goal.loop-e-init
loop-e-init g c = let m = g.C.CoreSet in gathered_none c.args.channels.now c.args.table.now (m.rules c.args.cores.now) (m.held c.args.cores.now) c.args.v.value

pub loop-e-preserved : goal.loop-e-preserved
loop-e-preserved g c =
    let m = g.C.CoreSet in
    let w₀ = c.args.channels.now in
    let t = c.args.table.now in
    let r₀ = m.rules c.args.cores.now in
    let h₀ = m.held c.args.cores.now in
    let v = c.args.v.value in
    let n = c.loop-e.e in
    let w₁ = c.loop-e.channels in
    let k₁ = c.loop-e.cores in
    let P : Channels → g.row.C.Denot → Type 0 = λ w k. Gathered w₀ t r₀ h₀ v (n + 1) w (m.rules k) (m.held k) in
    elim c.if-channels-e.branch [
      | then-channels-e+in-Some w ↦ subst₂ P (sym w.channels-is) (sym w.cores-is)
          (gathered_on w₀ t r₀ h₀ v n w₁ w.take.new.self (m.rules k₁) (m.rules w.absorb.new.self) (m.held k₁) (m.held w.absorb.new.self) w.in-Some.item
          c.loop-e.invariant c.loop-e-test.true (w.if-channels-e.true ∙ c.get.ensures) w.take.ensures.kept
          w.absorb.ensures.kept w.absorb.ensures.others w.absorb.ensures.own
          (λ ok before took put stream fl less. let f = w.take.ensures.flow ok before took put stream fl less in (subst (λ (o : Option g.row.C-Item.Denot). Gives ok o (stream n (took n))) w.in-Some.is f.0, f.1)))
      | then-channels-e+in_default w ↦ subst₂ P (sym w.channels-is) (sym w.cores-is)
          (gathered_lost w₀ t r₀ h₀ v n w₁ w.take.new.self (m.rules k₁) (m.held k₁) c.loop-e.invariant c.loop-e-test.true (w.if-channels-e.true ∙ c.get.ensures) w.take.ensures.kept
          (λ ok before took put stream fl less. let f = w.take.ensures.flow ok before took put stream fl less in subst (λ (o : Option g.row.C-Item.Denot). Gives ok o (stream n (took n))) w.in_default.is f.0))
      | else-channels-e w ↦ subst₂ P (sym w.channels-is) (sym w.cores-is)
          (gathered_off w₀ t r₀ h₀ v n w₁ (m.rules k₁) (m.held k₁) c.loop-e.invariant (λ q. w.if-channels-e.false (q ∙ sym c.get.ensures)))
    ]

pub returns-clause-flow : goal.returns-clause-flow
returns-clause-flow g c =
    let m = g.C.CoreSet in
    gathered_all c.args.channels.now c.args.table.now (m.rules c.args.cores.now) (m.held c.args.cores.now) c.args.v.value
    c.loop-e.e c.loop-e.channels (m.rules c.loop-e.cores) (m.held c.loop-e.cores) c.loop-e.invariant (omega (arith, c.loop-e-test.false, c.loop-e.auto.e-end))
