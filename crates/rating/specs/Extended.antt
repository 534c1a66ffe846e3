-- The extended graph of a netlist under a sizing: two places for each channel. Assumes nothing.
use Rattle.std.specs.Prelude.{ℕ, ◌+◌, ◌-◌, List, [], ◌∷◌}
use Rattle.marked.specs.declared.place.Place.{Place}
use Rattle.netlist.specs.declared.channel.Channel.{Channel}
use Rattle.netlist.specs.declared.kind.Kind.{Kind}
use Rattle.netlist.specs.declared.kind.Kind.TheVariants.{Block, RelayStation}
use Rattle.netlist.specs.declared.netlist.Netlist.{Netlist}
use Rattle.netlist.specs.Holds.{channels_of, kind_of}

-- a block has put an item into each of its channels at reset, a relay station has not
abbrev pub reset_items : Kind → ℕ
reset_items Block = 1
reset_items RelayStation = 0

-- where `kind` says what each module is: place 2e - 1, from the source of channel e to its sink. Graphs number modules from 0
abbrev pub forward : (ℕ → Kind) → Channel → Place
forward kind c = record { from = c.source - 1; to = c.sink - 1; tokens = reset_items (kind c.source) }

-- place 2e, from the sink back to the source: the room that is left in a queue of size q and its sender's register
abbrev pub backward : (ℕ → Kind) → Channel → ℕ → Place
backward kind c q = record { from = c.sink - 1; to = c.source - 1; tokens = q + 1 - reset_items (kind c.source) }

-- the places of all channels, in the order of their numbers: place p is entry p - 1
abbrev pub extended : (ℕ → Kind) → List Channel → List ℕ → List Place
extended kind [] qs = []
extended kind (c ∷ cs) [] = []
extended kind (c ∷ cs) (q ∷ qs) = forward kind c ∷ backward kind c q ∷ extended kind cs qs

abbrev pub graph_of : Netlist → List ℕ → List Place
graph_of n sizing = extended (kind_of n) (channels_of n) sizing
