-- Faults come first, and a file without fault needs all of its bytes.
use Rattle.netlist.proofs.laws.faults_come_first.Goals as goal
use Rattle.netlist.proofs.First.{first_fault, needs_all}

-- src/laws.rt:12:1
pub returns : goal.returns
returns c = record { first = first_fault; cut = needs_all }
