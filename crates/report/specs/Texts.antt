-- The text that the rating program prints of a file. Which slow cycle it shows is open. Assumes nothing.
use Rattle.std.specs.Prelude.{◌≡◌, ℕ, suc, ◌<◌, ◌⊎◌, List, [], map, length, ℤ, pos, Ok, Err, Result, slice_index_or}
use Rattle.checking.specs.Verdicts.{Refused}
use Rattle.marked.specs.Graphs.{Potential}
use Rattle.marked.specs.Rates.{IsRate, Shown}
use Rattle.netlist.specs.declared.netlist.Netlist.{Netlist}
use Rattle.netlist.specs.declared.refusal.Refusal.{Refusal}
use Rattle.netlist.specs.Faults.{verdict}
use Rattle.netlist.specs.Holds.{Holds, channels, modules, modules_of}
use Rattle.netlist.specs.Layout.{Contents}
use Rattle.rating.specs.Extended.{graph_of}
use Rattle.report.specs.Lines.{rating_lines, refused}

-- the text gives the rate of the netlist under the sizing, a cycle that shows it, and the potential of each module
pub record RatedText (n : Netlist) (sizing text : List ℕ) : Type 0 where
  pub p : ℕ
  pub l : ℕ
  pub places : List ℕ
  pub potentials : List ℤ
  pub is_rate : IsRate (graph_of n sizing) p l
  pub shown : ((p ≡ l) × (places ≡ [])) ⊎ ((p < l) × ((walk : List ℕ) × Shown p l (graph_of n sizing) walk × (places ≡ map suc walk)))
  pub potential : (v : ℕ) → v < modules n → Potential p l (graph_of n sizing) v (slice_index_or potentials v (pos 0))
  pub is : text ≡ rating_lines p l places (modules_of n) potentials

-- the text is a refusal of the check
abbrev pub CheckText : Netlist → List ℕ → Type 0
CheckText n text = (x : Refusal) × Refused n x × (text ≡ refused x)

-- of a netlist that a file holds: its rating, or the refusal of the check alone
abbrev pub NetlistText : Netlist → List ℕ → List ℕ → Type 0
NetlistText n sizing text = RatedText n sizing text ⊎ CheckText n text

-- of a file: the refusal of its fault alone, or what is printed of the netlist and the sizing that it says
abbrev pub FileText : (Netlist → List ℕ → List ℕ → Type 0) → Result Contents Refusal → List ℕ → Type 0
FileText Text (Err x) text = text ≡ refused x
FileText Text (Ok c) text = (n : Netlist) × (sizing : List ℕ) × Holds c n [] sizing × (length sizing ≡ channels n) × Text n sizing text

abbrev pub Prints : (Netlist → List ℕ → List ℕ → Type 0) → List ℕ → List ℕ → Type 0
Prints Text file text = FileText Text (verdict file) text
