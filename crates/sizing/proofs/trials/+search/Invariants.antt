use Rattle.std.proofs.Common.{◌≡◌, ℕ, ◌/◌, ◌<◌, List, get_or}
use Rattle.sizing.specs.Candidates.{Candidate, Reaching}
use Rattle.sizing.specs.Trials.{Backward}
use Rattle.sizing.proofs.trials.+search.Given as goal

abbrev pub decreases-search : goal.decreases-search
decreases-search l = l.slots

-- The table is as it was, and no candidate that reaches the target is deeper along a place that was tried.
abbrev pub invariant-loop-place : goal.invariant-loop-place
invariant-loop-place l =
    (l.sizes ≡ l.initial.sizes)
    × ((i : ℕ) → i < l.place-index → Backward (get_or l.place-items i 0) → (t : List ℕ) → Candidate l.initial.sizes l.aim.caps.now l.slots t
    → Reaching l.aim.netlist.now l.aim.target.a l.aim.target.b t
    → get_or l.initial.sizes (get_or l.place-items i 0 / 2) 0 < get_or t (get_or l.place-items i 0 / 2) 0 → ⊥)
