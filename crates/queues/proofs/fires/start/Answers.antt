use Rattle.std.proofs.Common.{◌≡◌, ◌+◌, ◌-◌, false, List, get_or, sym, ap, ◌∙◌, subst₂}
use Rattle.queues.specs.declared.channels.Channels.{Channels}
use Rattle.queues.specs.Flows.{queue_at}
use Rattle.queues.proofs.Starting.{Started, started_none, started_on, started_off, started_lost, started_all}
use Rattle.queues.proofs.fires.start.Goals as goal
use Rattle.queues.proofs.fires.start.Goals.{in-Some+then-blocks-index, in-Some+else-blocks-index, in_default}

pub loop-e-init : goal.loop-e-init
loop-e-init g c = started_none c.args.channels.now c.args.table.now c.args.blocks.now (g.C.CoreSet.rules c.args.cores.now).reset

pub loop-e-preserved : goal.loop-e-preserved
loop-e-preserved g c =
    let w₀ = c.args.channels.now in
    let t₀ = c.args.table.now in
    let bs = c.args.blocks.now in
    let reset = (g.C.CoreSet.rules c.args.cores.now).reset in
    let n = c.loop-e.e in
    let w₁ = c.loop-e.channels in
    let t₁ = c.loop-e.table in
    let P : Channels → List g.row.C-Item.Denot → Type 0 = Started w₀ t₀ bs reset (n + 1) in
    elim c.match-new.branch [
      | in-Some+then-blocks-index w ↦ subst₂ P (sym w.channels-is) (sym w.table-is)
          (let at : w.index.result ≡ (queue_at w₁ n).source - 1 = w.index.ensures.same ∙ ap (λ x. x - 1) w.in-Some.ensures in
          started_on w₀ t₀ bs reset n w₁ t₁ w.put.new.self w.put.new.table w.reset_item-item.result c.loop-e.invariant c.loop-e-test.true
          (ap (λ x. get_or bs x false) (sym at) ∙ w.if-blocks-index.true)
          (w.reset_item-item.ensures ∙ ap reset w.in-Some.ensures)
          w.put.ensures.kept w.put.ensures.flow)
      | in-Some+else-blocks-index w ↦ subst₂ P (sym w.channels-is) (sym w.table-is)
          (let at : w.index.result ≡ (queue_at w₁ n).source - 1 = w.index.ensures.same ∙ ap (λ x. x - 1) w.in-Some.ensures in
          started_off w₀ t₀ bs reset n w₁ t₁ c.loop-e.invariant (ap (λ x. get_or bs x false) (sym at) ∙ w.if-blocks-index.false))
      | in_default w ↦ subst₂ P (sym w.channels-is) (sym w.table-is) (started_lost w₀ t₀ bs reset n w₁ t₁ c.loop-e.invariant c.loop-e-test.true w.in_default.ensures)
    ]

pub returns-clause-flow : goal.returns-clause-flow
returns-clause-flow g c = started_all c.args.channels.now c.args.table.now c.args.blocks.now (g.C.CoreSet.rules c.args.cores.now).reset c.loop-e.e c.loop-e.channels c.loop-e.table c.loop-e.invariant c.loop-e-test.false
