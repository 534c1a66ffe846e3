-- The rows of files. Assumes nothing.
use Rattle.std.proofs.Common.{ℕ, List, refl, ap}
use Rattle.netlist.specs.declared.netlist.Netlist.{Netlist}
use Rattle.netlist.specs.Holds.{Holds}
use Rattle.netlist.specs.Layout.{Contents, layout}
use Rattle.netlist.proofs.Exact.{says_of}
use Rattle.worked.specs.Netlists.{Alone, D, F, f_file, Made, Pair, Ring, kinds_of}
use Rattle.worked.specs.Rows.{Files}

pub files : Files
files = record {
  whole = refl;
  says = says_of f_file F refl;
  cut = refl;
  longer = λ byte. refl;
  astray = refl;
  others = (says_of (layout D) D refl, (says_of (layout Ring) Ring refl, (says_of (layout Alone) Alone refl, (says_of (layout Pair) Pair refl, tt))));
}

pub read : (c : Contents) (n : Netlist) (was is : List ℕ) → Holds c n was is → Made c n
read c n was is h = record { kinds = ap kinds_of h.modules; channels = h.channels }
