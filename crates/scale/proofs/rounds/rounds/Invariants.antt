use Rattle.std.proofs.Common.{◌≡◌, ℕ, ◌<◌, length}
use Rattle.scale.specs.Counts.{element, over_walks}
use Rattle.scale.proofs.rounds.rounds.Given as goal

abbrev pub invariant-loop : goal.invariant-loop
invariant-loop g l =
    let s = g.S.Scale.scale in
    (v : ℕ) → v < length l.initial.elements → element s l.elements v ≡ over_walks s l.initial.elements l.weights l.counter v
