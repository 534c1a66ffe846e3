use Rattle.std.proofs.Common.{◌≡◌, ℕ, ◌+◌, ◌-◌, ◌≤◌, ◌++◌, vec_items}
use Rattle.trace_text.specs.declared.command.Command.{Command}
use Rattle.trace_text.specs.Lines.{questions}
use Rattle.trace_text.proofs.requests.add_each.Given as goal

abbrev pub invariant-loop-number : goal.invariant-loop-number
invariant-loop-number g l =
    (l.number ≤ l.count + 1)
    × ((asks : ℕ → Command) → ((k : ℕ) (c : Command) → goal.F-post g l.ask k c → c ≡ asks k) → vec_items l.list ≡ vec_items l.initial.list ++ questions asks (l.number - 1))
