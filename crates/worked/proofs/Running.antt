-- The rows of the run: its definitions compute. Assumes nothing.
use Rattle.std.proofs.Common.{sym, refl, subst}
use Rattle.calls.specs.Calls.{any, counted_from}
use Rattle.counts.specs.Nets.{net_of}
use Rattle.counts.specs.Origins.{base, feeder, origin, origin_by}
use Rattle.counts.specs.Steps.{ready}
use Rattle.netlist.specs.declared.netlist.Netlist.{Netlist}
use Rattle.queues.specs.Strict.{intake, strict}
use Rattle.worked.specs.Netlists.{F, Made}
use Rattle.worked.specs.Rows.{RunRows}
use Rattle.worked.proofs.Holding.{net_by, net_is}

ran : RunRows (net_by F F.sizes)
unfolding base feeder origin origin_by ready any counted_from intake strict
ran = record { fills = (refl, refl, refl); channel_1 = refl; channel_2 = refl; channel_3 = refl; state = refl }

pub run : (n : Netlist) → Made F n → RunRows (net_of n F.sizes)
run n made = subst RunRows (sym (net_is F n made F.sizes)) ran
