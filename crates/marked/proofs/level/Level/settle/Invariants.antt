use Rattle.std.proofs.Common.{◌≡◌, ℕ, ◌<◌, ◌≤◌, get_or, pos}
use Rattle.marked.specs.Rounds.{value}
use Rattle.marked.proofs.level.Level.settle.Given as goal

-- the potentials below v are written, the others are as before
abbrev pub invariant-loop-v : goal.invariant-loop-v
invariant-loop-v l =
    ((w : ℕ) → w < l.v → get_or l.potentials w (pos 0) ≡ value l.self w)
    × ((w : ℕ) → l.v ≤ w → get_or l.potentials w (pos 0) ≡ get_or l.initial.potentials w (pos 0))
