-- What vectors of records hold: words for private contracts. Assumes nothing.
use Rattle.std.specs.Prelude.{◌≡◌, ℕ, map, length, Ok, Err, vec_items, Result}
use Rattle.netlist.specs.declared.gather.Gathered.{Gathered}
use Rattle.netlist.specs.declared.reading.ReadError.{ReadError}
use Rattle.netlist.specs.declared.reading.ReadError.TheVariants.{NoMemory, Refused}
use Rattle.netlist.specs.declared.refusal.Refusal.{Refusal}
use Rattle.netlist.specs.Holds.{entry_of}
use Rattle.netlist.specs.Layout.{Contents}

abbrev pub gathered : Gathered → Contents
gathered g = record { modules = map entry_of (vec_items g.modules); channels = vec_items g.channels; sizes = vec_items g.sizes }

abbrev pub Gathers : Result Contents Refusal → Result Gathered ReadError → Type 0
Gathers file (Ok g) = file ≡ Ok (gathered g)
Gathers file (Err (Refused x)) = file ≡ Err x
Gathers file (Err NoMemory) = Unit {0}

abbrev pub Judges : Result Contents Refusal → Result ℕ Refusal → Type 0
Judges file (Ok e) = (c : Contents) × (file ≡ Ok c) × (e ≡ length c.channels)
Judges file (Err x) = file ≡ Err x
