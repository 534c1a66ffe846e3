use Rattle.std.proofs.Common.{◌≡◌, length}
use Rattle.netlist.specs.Faults.{before, verdict}
use Rattle.netlist.specs.Gathers.{gathered}
use Rattle.netlist.specs.Reads.{coming, rest_of}
use Rattle.netlist.proofs.gather.gather.Given as goal

abbrev pub invariant-loop-all : goal.invariant-loop-all
invariant-loop-all l = verdict l.file ≡ before (gathered l.all) (coming l.reader)

abbrev pub decreases-loop-all : goal.decreases-loop-all
decreases-loop-all l = length (rest_of l.reader)
