use Rattle.std.proofs.Common.{◌≡◌, ℕ, ◌<◌, None}
use Rattle.marked.specs.Rounds.{Rounds, level, via_at}
use Rattle.marked.proofs.slow.search.Given as goal

-- k rounds are done, level 0 has lowered nothing, and nothing is written yet
abbrev pub invariant-loop-k : goal.invariant-loop-k
invariant-loop-k l =
    Rounds l.weighed l.levels l.k
    × (l.k < l.modules)
    × (l.potentials ≡ l.initial.potentials)
    × (l.cycle ≡ l.initial.cycle)
    × ((v : ℕ) → v < 64 → via_at (level l.levels 0) v ≡ None)
