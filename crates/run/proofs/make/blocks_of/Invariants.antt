use Rattle.std.proofs.Common.{◌≡◌, ℕ, ◌+◌, ◌<◌, false, length, get_or}
use Rattle.counts.specs.Nets.{is_block}
use Rattle.netlist.specs.Holds.{kind_of}
use Rattle.run.proofs.make.blocks_of.Given as goal

abbrev pub invariant-loop-i : goal.invariant-loop-i
invariant-loop-i l = (length l.block-items ≡ 64) × ((k : ℕ) → k < l.i → get_or l.block-items k false ≡ is_block (kind_of l.netlist (k + 1)))
