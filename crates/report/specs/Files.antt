-- What is read of a file, and what is printed where that or a later call refuses. Assumes nothing.
use Rattle.std.specs.Prelude.{◌≡◌, ℕ, ⊤, List, [], length, take, Ok, Err, string_bytes, Result, String}
use Rattle.std.specs.Global.{Global}
use Rattle.netlist.specs.declared.reading.ReadError.{ReadError}
use Rattle.netlist.specs.declared.reading.ReadError.TheVariants.{NoMemory, Refused}
use Rattle.netlist.specs.declared.refusal.Refusal.{Refusal}
use Rattle.netlist.specs.Holds.{Holds, channels}
use Rattle.netlist.specs.Layout.{Contents}
use Rattle.report.specs.declared.file.NetlistFile.{NetlistFile}
use Rattle.report.specs.Lines.{refused}

-- the sizing of a file that was read: the front of its table
abbrev pub sizes_of : NetlistFile → List ℕ
sizes_of f = take (channels f.netlist) f.table

-- the verdict on a file and the answer to reading it: what the file says, or its fault
abbrev pub ReadAs : Result Contents Refusal → Result NetlistFile ReadError → Type 0
ReadAs v (Ok f) = (c : Contents) × (v ≡ Ok c) × Holds c f.netlist [] (sizes_of f) × (length (sizes_of f) ≡ channels f.netlist)
ReadAs v (Err (Refused x)) = v ≡ Err x
ReadAs v (Err NoMemory) = ⊤

-- P holds of what is printed: of a text, or of the line of the refusal that stands for it
abbrev pub OnPrinted : (List ℕ → Type 0) → Result (String Global) ReadError → Type 0
OnPrinted P (Ok s) = P (string_bytes s)
OnPrinted P (Err (Refused x)) = P (refused x)
OnPrinted P (Err NoMemory) = ⊤

-- and this is what is printed
abbrev pub PrintedOf : Result (String Global) ReadError → List ℕ → Type 0
PrintedOf (Ok s) text = text ≡ string_bytes s
PrintedOf (Err (Refused x)) text = text ≡ refused x
PrintedOf (Err NoMemory) text = ⊥
