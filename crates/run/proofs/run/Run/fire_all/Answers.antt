use Rattle.std.proofs.Common.{◌≡◌, ℕ, ◌+◌, ◌<◌, false, List, length, take, get_or, sym, ap, ◌∙◌, subst, subst₂, arith, rules}
use Rattle.std.proofs.lemmas.List.{get_or-take, length-take-le}
use Rattle.run.specs.declared.run.Run.{Run}
use Rattle.counts.specs.Origins.{Enabled, puts}
use Rattle.queues.specs.Flows.{bump}
use Rattle.queues.specs.Stands.{Stands}
use Rattle.run.proofs.Burst.{Burst, burst_none, burst_on, burst_off, burst_all, marks_still}
use Rattle.run.proofs.run.Run.fire_all.Goals as goal
use Rattle.run.proofs.run.Run.fire_all.Goals.{then-fires+in-Some, then-fires+in_default, else-fires}

pub loop-i-init : goal.loop-i-init
loop-i-init g c =
    let m = g.C.CoreSet in
    let s = c.args.self.now in
    burst_none s.inner (m.rules s.cores) (m.held s.cores) c.args.table.now c.args.firing.now

pub loop-i-preserved : goal.loop-i-preserved
loop-i-preserved g c =
    let m = g.C.CoreSet in
    let s₀ = c.args.self.now in
    let t₀ = c.args.table.now in
    let go = c.args.firing.now in
    let s₁ = c.loop-i.self in
    let t₁ = c.loop-i.table in
    let n = c.loop-i.i in
    let long : length (take s₀.inner.modules go) ≡ s₀.inner.modules = length-take-le s₀.inner.modules go (omega (arith, s₀.inner.modules_high)) in
    let within : n < s₀.inner.modules = omega (arith, c.loop-i-test.true, long) in
    let same : get_or (take s₀.inner.modules go) n false ≡ get_or go n false = get_or-take s₀.inner.modules go n false within in
    let P : Run g.row.C.Denot → List g.row.C-Item.Denot → Type 0 = λ s t. Burst s₀.inner (m.rules s₀.cores) (m.held s₀.cores) t₀ go (n + 1) s.inner (m.rules s.cores) (m.held s.cores) t in
    elim c.if-fires.branch [
      | then-fires+in-Some w ↦
          (let s₂ = c.if-fires.self in
          let t₂ = c.if-fires.table in
          let high : n < 64 = omega (arith, within, s₀.inner.modules_high) in
          let inside : n < length s₁.inner.states = search rules in
          let wrote = ap (λ (s : Run g.row.C.Denot). s.inner.states) w.self-is in
          burst_on s₀.inner (m.rules s₀.cores) (m.held s₀.cores) t₀ go n s₁.inner s₂.inner (m.rules s₁.cores) (m.rules s₂.cores) (m.held s₁.cores) (m.held s₂.cores) t₁ t₂
          c.loop-i.invariant within (sym same ∙ w.if-fires.true)
          (record {
            modules = ap (λ (s : Run g.row.C.Denot). s.inner.modules) w.self-is;
            entries = ap (λ (s : Run g.row.C.Denot). s.inner.channels.entries) w.self-is ∙ w.fire.ensures.kept.entries;
            blocks = ap (λ (s : Run g.row.C.Denot). s.inner.blocks) w.self-is;
            marks = marks_still s₁.inner s₂.inner n _ inside wrote;
            primed = ap (λ (s : Run g.row.C.Denot). s.inner.primed) w.self-is;
            steps = ap (λ (s : Run g.row.C.Denot). s.inner.steps) w.self-is;
          })
          inside wrote
          (λ ok before chip f st blk en.
          let Q : ℕ → Type 0 = λ x. get_or s₁.inner.blocks n false ≡ chip.net.block x → Enabled chip.net f x
          → Stands ok before chip (bump f x) (puts chip.net (bump f x)) w.fire.new.channels (m.rules w.fire.new.cores) (m.held w.fire.new.cores) w.fire.new.table in
          let R : Run g.row.C.Denot → List g.row.C-Item.Denot → Type 0 = λ s t. Stands ok before chip (bump f (n + 1)) (puts chip.net (bump f (n + 1))) s.inner.channels (m.rules s.cores) (m.held s.cores) t in
          subst₂ R (sym w.self-is) (sym w.table-is) (subst Q w.in-Some.ensures (w.fire.ensures.told ok before chip f st) blk en)))
      | then-fires+in_default w ↦ absurd (w.in_default.ensures (omega arith) (omega (arith, within, s₀.inner.modules_high)))
      | else-fires w ↦ subst₂ P (sym w.self-is) (sym w.table-is)
          (burst_off s₀.inner (m.rules s₀.cores) (m.held s₀.cores) t₀ go n s₁.inner (m.rules s₁.cores) (m.held s₁.cores) t₁ c.loop-i.invariant within (sym same ∙ w.if-fires.false))
    ]

pub returns-clause-told : goal.returns-clause-told
returns-clause-told g c =
    let m = g.C.CoreSet in
    let s₀ = c.args.self.now in
    let s₁ = c.loop-i.self in
    burst_all s₀.inner (m.rules s₀.cores) (m.held s₀.cores) c.args.table.now c.args.firing.now c.loop-i.i s₁.inner (m.rules s₁.cores) (m.held s₁.cores) c.loop-i.table c.loop-i.invariant
    (omega (arith, length-take-le s₀.inner.modules c.args.firing.now (omega (arith, s₀.inner.modules_high)), c.loop-i-test.false))
