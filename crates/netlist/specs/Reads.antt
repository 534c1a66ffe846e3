-- What a reader has yet to give, with the places of faults counted from the file's front. Assumes nothing.
use Rattle.std.specs.Prelude.{ℕ, List, Result}
use Rattle.netlist.specs.declared.reader.Reader.{Reader}
use Rattle.netlist.specs.declared.refusal.Refusal.{Refusal}
use Rattle.netlist.specs.Faults.{placed}
use Rattle.netlist.specs.Layout.{Contents}
use Rattle.netlist.specs.Scans.{ahead}

abbrev pub coming : Reader → Result Contents Refusal
coming r = placed r.size (ahead r.scan)

-- the bytes that have not been read
abbrev pub rest_of : Reader → List ℕ
rest_of r = r.scan.rest.now
