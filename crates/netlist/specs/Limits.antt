-- What a name and the ends of a channel may be. Assumes nothing.
use Rattle.std.specs.Prelude.{ℕ, ◌<◌, List, length, slice_index, slice_index_or}
use Rattle.std.specs.Int.{IsInRange}
use Rattle.netlist.specs.declared.channel.Channel.{Channel}

-- each byte is from 33 to 126
abbrev pub Shown : List ℕ → Type 0
Shown bytes = (k : ℕ) → k < length bytes → IsInRange 33 126 (slice_index bytes k)

-- a name has 1 to 16 such bytes
abbrev pub Named : List ℕ → Type 0
Named bytes = IsInRange 1 16 (length bytes) × Shown bytes

-- each channel comes from one of n modules, and goes to one of them
abbrev pub Sources : ℕ → List Channel → Type 0
Sources n channels = (k : ℕ) (d : Channel) → k < length channels → IsInRange 1 n (slice_index_or channels k d).source

abbrev pub Sinks : ℕ → List Channel → Type 0
Sinks n channels = (k : ℕ) (d : Channel) → k < length channels → IsInRange 1 n (slice_index_or channels k d).sink
