use Rattle.std.proofs.Common.{◌≡◌, ◌≤◌, ◌++◌, length, drop, string_bytes}
use Rattle.trace_text.specs.Lines.{answer_lines, calls_in}
use Rattle.trace_text.proofs.answers.add_answers.Given as goal

abbrev pub invariant-loop-command : goal.invariant-loop-command
invariant-loop-command l =
    (string_bytes l.text ++ answer_lines (drop l.command-index l.commands) l.rest ≡ string_bytes l.initial.text ++ answer_lines l.commands l.exchanges)
    × (calls_in (drop l.command-index l.commands) ≤ length l.rest)
