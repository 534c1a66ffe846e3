use Rattle.std.proofs.Common.{◌≡◌, ℕ, ◌<◌, length, get_or, None}
use Rattle.marked.specs.Rounds.{at_start}
use Rattle.marked.proofs.level.unlower.Given as goal

-- the values are as before, and the modules so far are not lowered
abbrev pub invariant-loop-arrival : goal.invariant-loop-arrival
invariant-loop-arrival l =
    (length l.arrival-items ≡ l.modules)
    × ((v : ℕ) → v < l.modules → (get_or l.arrival-items v at_start).value ≡ (get_or l.fn.arrivals v at_start).value)
    × ((v : ℕ) → v < l.arrival-index → (get_or l.arrival-items v at_start).via ≡ None)
