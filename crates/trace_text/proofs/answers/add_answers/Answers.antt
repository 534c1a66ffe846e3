use Rattle.std.proofs.Common.{◌≡◌, [], ◌++◌, take, drop, string_bytes, sym, ap, ◌∙◌, append-nil, arith}
use Rattle.std.proofs.lemmas.List.{at_drop_all}
use Rattle.trace_text.specs.Lines.{answer_lines}
use Rattle.trace_text.proofs.Answering.{answers_more, calls_step}
use Rattle.trace_text.proofs.answers.add_answers.Goals as goal

pub loop-command-preserved : goal.loop-command-preserved
loop-command-preserved c =
    let xs = c.loop-command.rest.now in (
      answers_more c.args.commands.now xs _ _ c.loop-command.command-index _ _ _ _ (omega arith)
          (c.split_at.ensures.front ∙ ap (λ n. take n xs) c.count.ensures) (c.split_at.ensures.back ∙ ap (λ n. drop n xs) c.count.ensures)
          (c.as_str.ensures.value ∙ c.in_ok-line.ensures) c.in_ok-push_str.ensures.bytes c.loop-command.invariant.0,
      omega (arith, c.split_at.ensures.back_len, c.count.ensures, calls_step c.args.commands.now c.loop-command.command-index (omega arith), c.loop-command.invariant.1),
    )

pub returns : goal.returns
returns c =
    let text = string_bytes c.loop-command.text in
    let none : answer_lines (drop c.loop-command.command-index c.args.commands.now) c.loop-command.rest.now ≡ answer_lines [] c.loop-command.rest.now = at_drop_all (λ cs. answer_lines cs c.loop-command.rest.now) c.args.commands.now c.loop-command.command-index (omega arith) in
    sym (append-nil text) ∙ (ap (λ t. text ++ t) (sym none) ∙ c.loop-command.invariant.0)
