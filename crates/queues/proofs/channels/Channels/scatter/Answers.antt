use Rattle.std.proofs.Common.{◌+◌, List, sym, subst₂}
use Rattle.queues.specs.declared.channels.Channels.{Channels}
use Rattle.queues.proofs.Scatter.{Scattered, scattered_none, scattered_on, scattered_off, scattered_all}
use Rattle.queues.proofs.channels.Channels.scatter.Goals as goal
use Rattle.queues.proofs.channels.Channels.scatter.Goals.{then-self-e, else-self-e}

pub loop-e-init : goal.loop-e-init
loop-e-init g c = scattered_none c.args.self.now c.args.table.now c.args.v c.args.item

pub loop-e-preserved : goal.loop-e-preserved
loop-e-preserved g c =
    let w₀ = c.args.self.now in
    let t₀ = c.args.table.now in
    let P : Channels → List g.row.T.Denot → Type 0 = Scattered w₀ t₀ c.args.v c.args.item (c.loop-e.e + 1) in
    elim c.if-self-e.branch [
      | then-self-e w ↦ subst₂ P (sym w.self-is) (sym w.table-is)
          (scattered_on w₀ t₀ c.args.v c.args.item c.loop-e.e c.loop-e.self c.loop-e.table w.put.new.self w.put.new.table
          c.loop-e.invariant c.loop-e-test.true w.if-self-e.true w.put.ensures.kept w.put.ensures.flow)
      | else-self-e w ↦ subst₂ P (sym w.self-is) (sym w.table-is)
          (scattered_off w₀ t₀ c.args.v c.args.item c.loop-e.e c.loop-e.self c.loop-e.table c.loop-e.invariant w.if-self-e.false)
    ]

pub returns-clause-flow : goal.returns-clause-flow
returns-clause-flow g c = scattered_all c.args.self.now c.args.table.now c.args.v c.args.item c.loop-e.e c.loop-e.self c.loop-e.table c.loop-e.invariant c.loop-e-test.false
