use Rattle.std.proofs.Common.{◌≡◌, ℕ, ◌*◌, ◌<◌, length, drop}
use Rattle.scale.specs.Counts.{element}
use Rattle.scale.specs.Arrivals.{arrival_from}
use Rattle.scale.proofs.rounds.advance.Given as goal

abbrev pub invariant-loop-from : goal.invariant-loop-from
invariant-loop-from g l =
    let s = g.S.Scale.scale in
    ((v : ℕ) → v < length l.elements → element s l.next v ≡ arrival_from s l.elements l.weights v l.from-index) × (l.rows ≡ drop (l.from-index * length l.elements) l.weights)
