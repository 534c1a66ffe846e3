use Rattle.std.proofs.Common.{◌≡◌, ℕ, ◌*◌, ◌≤◌, take}
use Rattle.marked.specs.Graphs.{at}
use Rattle.netlist.specs.Holds.{channels_of, kind_of}
use Rattle.rating.specs.Extended.{extended}
use Rattle.rating.proofs.extend.extend.Given as goal

abbrev pub invariant-loop-at : goal.invariant-loop-at
invariant-loop-at l =
    (take (2 * l.at) l.places ≡ extended (kind_of l.netlist) (take l.at (channels_of l.netlist)) (take l.at l.sizing))
    × ((p : ℕ) → 2 * l.at ≤ p → at l.places p ≡ at l.initial.places p)
