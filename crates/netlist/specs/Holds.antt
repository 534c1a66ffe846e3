-- What a netlist and a sizing hold, and what the whole reading leaves in them. Assumes nothing.
use Rattle.std.specs.Prelude.{◌≡◌, ℕ, ◌-◌, ◌<◌, ◌≤◌, cond, List, [], ◌∷◌, map, length, get_or, Ok, Err, vec_items, vec_len, string_bytes, Result, nat_le, slice_index, slice_index_or}
use Rattle.netlist.specs.declared.channel.Channel.{Channel}
use Rattle.netlist.specs.declared.kind.Kind.{Kind}
use Rattle.netlist.specs.declared.kind.Kind.TheVariants.{Block}
use Rattle.netlist.specs.declared.netlist.Module.{Module}
use Rattle.netlist.specs.declared.netlist.Netlist.{Netlist}
use Rattle.netlist.specs.declared.reading.ReadError.{ReadError}
use Rattle.netlist.specs.declared.reading.ReadError.TheVariants.{NoMemory, Refused}
use Rattle.netlist.specs.declared.refusal.Cause.TheVariants.{ListTooShort}
use Rattle.netlist.specs.declared.refusal.Refusal.{Refusal}
use Rattle.netlist.specs.Faults.{verdict}
use Rattle.netlist.specs.Layout.{Contents, Entry, Says}

abbrev pub entry_of : Module → Entry
entry_of m = record { kind = m.kind; name = string_bytes m.name.text }

abbrev pub modules_of : Netlist → List Entry
modules_of n = map entry_of (vec_items n.modules)

abbrev pub channels_of : Netlist → List Channel
channels_of n = vec_items n.channels

-- how many modules, and how many channels
abbrev pub modules : Netlist → ℕ
modules n = vec_len n.modules

abbrev pub channels : Netlist → ℕ
channels n = vec_len n.channels

-- the kind of module v, and channel e, both numbered from 1
abbrev pub kind_of : Netlist → ℕ → Kind
kind_of n v = (get_or (modules_of n) (v - 1) (record { kind = Block; name = [] })).kind

abbrev pub channel : Netlist → ℕ → Channel
channel n e = slice_index_or (channels_of n) (e - 1) (record { source = 0; sink = 0 })

-- one block named A (65), without channels
pub record Fresh (n : Netlist) : Type 0 where
  pub modules : modules_of n ≡ record { kind = Block; name = 65 ∷ [] } ∷ []
  pub channels : channels_of n ≡ []

-- the netlist holds the contents, and so does the front of the table: a size for each channel, 1 where the file gives none. Behind
-- that the table is as it was
pub record Holds (c : Contents) (n : Netlist) (was is : List ℕ) : Type 0 where
  pub modules : modules_of n ≡ c.modules
  pub channels : channels_of n ≡ c.channels
  pub sizes : (k : ℕ) → k < length c.channels → slice_index is k ≡ slice_index_or c.sizes k 1
  pub behind : (k : ℕ) → length c.channels ≤ k → slice_index is k ≡ slice_index was k

-- the file's fault, if it has one; else a table of `room` entries has to hold a size for each channel
abbrev pub with_room : ℕ → Result Contents Refusal → Result Contents Refusal
with_room room (Err x) = Err x
with_room room (Ok c) = cond (nat_le (length c.channels) room) (Ok c) (Err (record { cause = ListTooShort; place = length c.channels }))

-- the verdict on reading the file into such a table
abbrev pub whole_verdict : List ℕ → ℕ → Result Contents Refusal
whole_verdict file room = with_room room (verdict file)

-- the netlist n and the table `was` before the reading, m and `is` after it. Memory is wanting only where nothing else is
abbrev pub Filled : List ℕ → Result (Unit {0}) ReadError → Netlist → Netlist → List ℕ → List ℕ → Type 0
Filled file (Ok done) n m was is = (c : Contents) × (whole_verdict file (length was) ≡ Ok c) × Says file c × Holds c m was is
Filled file (Err (Refused x)) n m was is = (whole_verdict file (length was) ≡ Err x) × (m ≡ n) × (is ≡ was)
Filled file (Err NoMemory) n m was is = ((c : Contents) × (whole_verdict file (length was) ≡ Ok c)) × (m ≡ n) × (is ≡ was)
