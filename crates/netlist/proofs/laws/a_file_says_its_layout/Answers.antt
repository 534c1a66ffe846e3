use Rattle.netlist.proofs.Exact.{read_back, said_exactly}
use Rattle.netlist.proofs.laws.a_file_says_its_layout.Goals as goal

pub returns : goal.returns
returns c = record { back = read_back; exactly = said_exactly }
