-- How many modules a netlist lends. Assumes nothing.
use Rattle.std.proofs.Common.{◌≡◌, List, length, vec_items, sym, ap, ◌∙◌}
use Rattle.netlist.specs.declared.netlist.Module.{Module}
use Rattle.netlist.specs.declared.netlist.Netlist.{Netlist}
use Rattle.netlist.specs.Holds.{modules}

pub module_count : (n : Netlist) (ms : List Module) → ms ≡ vec_items n.modules → length ms ≡ modules n
module_count n ms e = ap length e ∙ sym n.modules.ok.0
