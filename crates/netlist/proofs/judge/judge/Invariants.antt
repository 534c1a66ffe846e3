use Rattle.std.proofs.Common.{length}
use Rattle.netlist.specs.Reads.{coming, rest_of}
use Rattle.netlist.proofs.Joined.{Counted}
use Rattle.netlist.proofs.judge.judge.Given as goal

abbrev pub invariant-loop-record : goal.invariant-loop-record
invariant-loop-record l = Counted l.file (coming l.reader) (rest_of l.reader) l.channels

abbrev pub decreases-loop-record : goal.decreases-loop-record
decreases-loop-record l = length (rest_of l.reader)
