use Rattle.std.proofs.Common.{ℕ, ◌+◌, ◌-◌, ◌≤◌, List}
use Rattle.sizing.specs.Candidates.{AtLeast, Reaching, added}
use Rattle.sizing.proofs.bounds.least_needed.Given as goal

-- What a candidate adds beyond the raised table comes on top of the slots that were counted.
abbrev pub invariant-loop-need : goal.invariant-loop-need
invariant-loop-need l =
    AtLeast l.chip.sizing.now l.raised × AtLeast l.raised l.aim.caps.now
    × ((t : List ℕ) → AtLeast l.chip.sizing.now t → AtLeast t l.aim.caps.now → Reaching l.chip.netlist.now l.aim.target.a l.aim.target.b t
    → l.need + added l.raised t ≤ added l.chip.sizing.now t)

abbrev pub decreases-loop-need : goal.decreases-loop-need
decreases-loop-need l = l.enough - l.need
