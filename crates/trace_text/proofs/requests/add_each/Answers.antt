use Rattle.std.proofs.Common.{◌≡◌, ℕ, ◌+◌, ◌-◌, ◌++◌, vec_items, ap, ◌∙◌, arith}
use Rattle.trace_text.specs.Lines.{questions}
use Rattle.trace_text.proofs.Requesting.{one_question}
use Rattle.trace_text.proofs.requests.add_each.Goals as goal
use Rattle.trace_text.proofs.requests.add_each.Goals.{else-loop-number-test, then-loop-number-test+in_ok-add+else-number-count}

pub loop-number-preserved : goal.loop-number-preserved
loop-number-preserved g c = (
  omega arith,
  λ asks says.
      one_question (vec_items c.args.list.now) (vec_items c.loop-number.list) _ asks c.loop-number.number c.ask.result (omega arith) (says _ _ c.ask.ensures) c.in_ok-add.ensures (c.loop-number.invariant.1 asks says),
)

pub returns : goal.returns
returns g c = λ asks says. elim c.loop-number-test.branch [
  | else-loop-number-test w ↦
      let many : c.loop-number.number - 1 ≡ c.args.count = omega (arith, c.loop-number.invariant.0) in
      ap vec_items w.list-is ∙ c.loop-number.invariant.1 asks says ∙ ap (λ (k : ℕ). vec_items c.args.list.now ++ questions asks k) many
  | then-loop-number-test+in_ok-add+else-number-count w ↦
      let many : c.loop-number.number + 1 - 1 ≡ c.args.count = omega (arith, c.loop-number.invariant.0) in
      ap vec_items w.list-is
      ∙ one_question (vec_items c.args.list.now) (vec_items c.loop-number.list) _ asks c.loop-number.number w.ask.result (omega arith) (says _ _ w.ask.ensures) w.in_ok-add.ensures (c.loop-number.invariant.1 asks says)
      ∙ ap (λ (k : ℕ). vec_items c.args.list.now ++ questions asks k) many
]
