use Rattle.std.proofs.Common.{◌≡◌, ℕ, ◌<◌, ◌≤◌, false, length, get_or}
use Rattle.run.specs.Told.{unused}
use Rattle.run.proofs.judge.unmark.Given as goal

abbrev pub invariant-loop-state : goal.invariant-loop-state
invariant-loop-state l =
    (length l.state-items ≡ l.modules)
    × ((k : ℕ) → k < l.state-index → get_or l.state-items k unused ≡ record { firings = (get_or l.fn.states k unused).firings; marked = false })
    × ((k : ℕ) → l.state-index ≤ k → k < l.modules → get_or l.state-items k unused ≡ get_or l.fn.states k unused)
