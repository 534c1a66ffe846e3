use Rattle.std.proofs.Common.{ℕ, ◌<◌, get_or}
use Rattle.std.specs.Int.{IsInRange}
use Rattle.rating.proofs.sizing.test_bytes.Given as goal

-- the bytes so far are in range
abbrev pub invariant-loop-at : goal.invariant-loop-at
invariant-loop-at g l = (i : ℕ) → i < l.at → (q : ℕ) × goal.F-post g l.least i q × IsInRange q 16 (get_or l.bytes i 0)
