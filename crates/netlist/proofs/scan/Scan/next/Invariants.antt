use Rattle.std.proofs.Common.{◌≡◌, ◌≤◌, length}
use Rattle.netlist.specs.Scans.{ahead, sections_left}
use Rattle.netlist.proofs.scan.Scan.next.Given as goal

abbrev pub invariant-loop-self : goal.invariant-loop-self
invariant-loop-self l = (ahead l.initial.self ≡ ahead l.self) × (length l.self.rest.now ≤ length l.initial.self.rest.now)

abbrev pub decreases-loop-self : goal.decreases-loop-self
decreases-loop-self l = sections_left l.self.section
