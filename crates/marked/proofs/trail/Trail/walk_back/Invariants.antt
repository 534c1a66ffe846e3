use Rattle.std.proofs.Common.{◌≡◌, ◌≤◌}
use Rattle.marked.specs.Rounds.{Back, Apart}
use Rattle.marked.proofs.trail.Trail.walk_back.Given as goal

-- the trail is a way back to level k, and no module has come again
abbrev pub invariant-loop-k : goal.invariant-loop-k
invariant-loop-k l =
    (l.trail.peak ≡ l.peak)
    × (l.k ≤ l.peak)
    × Back l.weighed l.levels l.k l.trail
    × Apart l.k l.trail
    × (l.cycle ≡ l.initial.cycle)
