use Rattle.std.proofs.Common.{◌≡◌, ℕ, ◌<◌, ◌≤◌}
use Rattle.scale.specs.Counts.{element}
use Rattle.scale.proofs.rounds.depart.Given as goal

-- the modules passed have what the contract says, and the others what they had
abbrev pub invariant-loop-v : goal.invariant-loop-v
invariant-loop-v g l =
    let s = g.S.Scale.scale in
    ((w : ℕ) → w < l.v → element s l.next w ≡ s.choice (element s l.initial.next w) (s.extension l.from (element s l.row w)))
    × ((w : ℕ) → l.v ≤ w → element s l.next w ≡ element s l.initial.next w)
