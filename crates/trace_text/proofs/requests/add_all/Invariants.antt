use Rattle.std.proofs.Common.{◌≡◌, ◌++◌, take, vec_items}
use Rattle.trace_text.specs.Lines.{exchanges_in}
use Rattle.trace_text.proofs.requests.add_all.Given as goal

abbrev pub invariant-loop-command : goal.invariant-loop-command
invariant-loop-command l = vec_items l.list ≡ vec_items l.initial.list ++ exchanges_in (take l.command-index l.commands)
