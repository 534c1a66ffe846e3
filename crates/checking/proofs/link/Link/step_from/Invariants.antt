use Rattle.std.proofs.Common.{ℕ, ◌+◌, ◌<◌, false, get_or, Decides}
use Rattle.checking.specs.Links.{Step}
use Rattle.checking.proofs.link.Link.step_from.Given as goal

-- the entries so far are filled
abbrev pub invariant-loop-v : goal.invariant-loop-v
invariant-loop-v l = (k : ℕ) → k < l.v → Decides (get_or l.at k false) ((e : ℕ) × Step l.self l.netlist e l.u (k + 1))
