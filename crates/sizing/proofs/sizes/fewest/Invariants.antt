use Rattle.std.proofs.Common.{◌≡◌, ℕ, ◌≤◌, List}
use Rattle.sizing.specs.Candidates.{AtLeast, Reaching, added}
use Rattle.sizing.proofs.sizes.fewest.Given as goal

-- The table is as it was, and each candidate that reaches the target adds so many slots at least.
abbrev pub invariant-loop-slots : goal.invariant-loop-slots
invariant-loop-slots l =
    (l.sizing ≡ l.initial.sizing)
    × ((t : List ℕ) → AtLeast l.initial.sizing t → AtLeast t l.aim.caps.now → Reaching l.aim.netlist.now l.aim.target.a l.aim.target.b t
    → l.slots ≤ added l.initial.sizing t)
