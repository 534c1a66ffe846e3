use Rattle.std.proofs.Common.{ℕ, ◌+◌, ◌/◌, ◌%◌, ◌<◌, false, get_or, Decides}
use Rattle.checking.specs.Links.{Move, Step}
use Rattle.netlist.specs.Holds.{modules}
use Rattle.checking.proofs.link.Link.fill.Given as goal

-- the entries so far are filled
abbrev pub invariant-loop-at : goal.invariant-loop-at
invariant-loop-at l = (k : ℕ) → k < l.at → Decides (get_or l.table k false) (Move (Step l.self l.netlist) (k / modules l.netlist + 1) (k % modules l.netlist + 1))
