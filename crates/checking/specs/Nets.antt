-- What the check speaks of: modules and channels by their numbers from 1, and what the channels join. Assumes nothing.
use Rattle.std.specs.Prelude.{◌≡◌, ℕ, zero, suc, ◌⊎◌, List, [], ◌∷◌, count_by, nat_eq}
use Rattle.std.specs.Int.{IsInRange}
use Rattle.netlist.specs.Holds.{channel, channels, channels_of, kind_of}
use Rattle.netlist.specs.declared.channel.Channel.{Channel}
use Rattle.netlist.specs.declared.kind.Kind.TheVariants.{Block, RelayStation}
use Rattle.netlist.specs.declared.netlist.Netlist.{Netlist}

-- module v is a relay station
abbrev pub Relay : Netlist → ℕ → Type 0
Relay n v = kind_of n v ≡ RelayStation

-- how many channels lead to module v, and how many from it
abbrev pub inputs : Netlist → ℕ → ℕ
inputs n v = count_by (λ c. nat_eq c.sink v) (channels_of n)

abbrev pub outputs : Netlist → ℕ → ℕ
outputs n v = count_by (λ c. nat_eq c.source v) (channels_of n)

-- the channel leads from module u to module v
abbrev pub FromTo : Channel → ℕ → ℕ → Type 0
FromTo c u v = (c.source ≡ u) × (c.sink ≡ v)

-- channel e joins u and v, whichever of them it leads from
abbrev pub Joins : Netlist → ℕ → ℕ → ℕ → Type 0
Joins n e u v = IsInRange 1 (channels n) e × (FromTo (channel n e) u v ⊎ FromTo (channel n e) v u)

-- channel e leads from the relay station u to the relay station v
abbrev pub Hops : Netlist → ℕ → ℕ → ℕ → Type 0
Hops n e u v = IsInRange 1 (channels n) e × (FromTo (channel n e) u v × Relay n u × Relay n v)

-- the channels es lead from u to v, where a step says which channel may be taken from which module to which
abbrev pub Leads : (ℕ → ℕ → ℕ → Type 0) → ℕ → List ℕ → ℕ → Type 0
Leads Step u [] v = u ≡ v
Leads Step u (e ∷ es) v = (w : ℕ) × Step e u w × Leads Step w es v

-- a way, with no regard to directions
abbrev pub Way : Netlist → ℕ → List ℕ → ℕ → Type 0
Way n = Leads (Joins n)

abbrev pub Joined : Netlist → ℕ → ℕ → Type 0
Joined n u v = (es : List ℕ) × Way n u es v

-- Going back from channel e, each relay station that it comes from is left by an input channel of its own, until a block is
-- met: k relay stations are passed, and b is the block
abbrev pub Origin : Netlist → ℕ → ℕ → ℕ → Type 0
Origin n e zero b = ((channel n e).source ≡ b) × (kind_of n b ≡ Block)
Origin n e (suc k) b = Relay n (channel n e).source × ((d : ℕ) × IsInRange 1 (channels n) d × ((channel n d).sink ≡ (channel n e).source) × Origin n d k b)
