-- The verdict is Ok exactly where the file is a layout.
use Rattle.std.proofs.Common.{◌≡◌, ℕ, List, length, Ok, Err, Result, refl}
use Rattle.netlist.specs.declared.flaw.Flaw.{Flaw}
use Rattle.netlist.specs.Faults.{contents, placed, verdict}
use Rattle.netlist.specs.Laws.{ReadBack, SaidExactly}
use Rattle.netlist.specs.Layout.{Contents, Says}
use Rattle.netlist.proofs.Laid.{reads_back}
use Rattle.netlist.proofs.Said.{said}

placed_ok : (size : ℕ) (x : Result Contents Flaw) (c : Contents) → placed size x ≡ Ok c → x ≡ Ok c
placed_ok size (Ok d) c h = cc
placed_ok size (Err f) c h = cc

pub says_of : (file : List ℕ) (c : Contents) → verdict file ≡ Ok c → Says file c
says_of file c h = said file c (placed_ok (length file) (contents file) c h)

pub read_back : ReadBack
read_back c v = rw (reads_back c v) refl

pub said_exactly : SaidExactly
said_exactly file c = (says_of file c, λ s. rw s.laid (read_back c s.valid))
