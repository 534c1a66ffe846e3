use Rattle.std.proofs.Common.{ℕ, ◌/◌, ◌<◌, ◌≤◌, get_or}
use Rattle.sizing.specs.Candidates.{AtLeast}
use Rattle.sizing.specs.Trials.{Backward}
use Rattle.sizing.proofs.bounds.lift.Given as goal

abbrev pub invariant-loop-place : goal.invariant-loop-place
invariant-loop-place l =
    AtLeast l.initial.sizes l.sizes × AtLeast l.sizes l.caps
    × ((i : ℕ) → i < l.place-index → Backward (get_or l.places i 0) → get_or l.caps (get_or l.places i 0 / 2) 0 ≤ get_or l.sizes (get_or l.places i 0 / 2) 0)
