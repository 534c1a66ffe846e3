-- Steps, tables, what is reached and what is found, for the contracts of private functions alone. Assumes nothing.
use Rattle.std.specs.Prelude.{◌≡◌, ℕ, ◌+◌, ◌<◌, Bool, true, false, ◌⊎◌, List, length, Some, None, Decides, MatchOption, Option, slice_index_or}
use Rattle.std.specs.Int.{IsInRange}
use Rattle.netlist.specs.declared.channel.Channel.{Channel}
use Rattle.netlist.specs.declared.netlist.Netlist.{Netlist}
use Rattle.scale.specs.Counts.{weight}
use Rattle.scale.specs.YesNo.{yes_no}
use Rattle.checking.specs.Faults.{Lowest}
use Rattle.netlist.specs.Holds.{channel, channels}
use Rattle.checking.specs.Nets.{FromTo, Leads, Relay}
use Rattle.checking.specs.declared.link.Link.{Link}
use Rattle.checking.specs.declared.link.Link.TheVariants.{EitherWay, Relays}

-- the channel makes a step from u to v
abbrev pub Takes : Link → Netlist → Channel → ℕ → ℕ → Type 0
Takes EitherWay n c u v = FromTo c u v ⊎ FromTo c v u
Takes Relays n c u v = FromTo c u v × Relay n u × Relay n v

-- so does channel e of the netlist: Joins or Hops, by the link
abbrev pub Step : Link → Netlist → ℕ → ℕ → ℕ → Type 0
Step link n e u v = IsInRange 1 (channels n) e × Takes link n (channel n e) u v

-- from u to v by staying, or by a step
abbrev pub Move : (ℕ → ℕ → ℕ → Type 0) → ℕ → ℕ → Type 0
Move Step u v = (u ≡ v) ⊎ ((e : ℕ) × Step e u v)

-- the table of moves among m modules
abbrev pub Table : (ℕ → ℕ → ℕ → Type 0) → ℕ → List Bool → Type 0
Table Step m ws = (u v : ℕ) → u < m → v < m → Decides (weight yes_no ws m u v) (Move Step (u + 1) (v + 1))

-- the list has yes where a step leads from u
abbrev pub Stepping : (ℕ → ℕ → ℕ → Type 0) → ℕ → List Bool → Type 0
Stepping Step u at = (v : ℕ) → v < length at → Decides (slice_index_or at v false) ((e : ℕ) × Step e u (v + 1))

-- steps lead to module v + 1 from a module at which the list has yes
abbrev pub Reached : (ℕ → ℕ → ℕ → Type 0) → List Bool → ℕ → Type 0
Reached Step at v = (u : ℕ) × (u < length at) × (slice_index_or at u false ≡ true) × ((es : List ℕ) × Leads Step (u + 1) es (v + 1))

-- the lowest of m modules that has Bad; where there is none, all have Good
abbrev pub Finds : ℕ → (ℕ → Type 0) → (ℕ → Type 0) → Option ℕ → Type 0
Finds m Good Bad None = (v : ℕ) → IsInRange 1 m v → Good v
Finds m Good Bad (Some v) = Lowest m Bad v

-- the lowest of the numbers from 1 to m of which a test may have said yes, where it may have said no of all lower ones; where there
-- is none, it may have said no of all. (A record, so that a proof need not repeat what the test says.)
pub record Picks (m : ℕ) (Says : ℕ → Bool → Type 0) (r : Option ℕ) : Type 0 where
  pub picked : MatchOption r ((v : ℕ) → IsInRange 1 m v → Says v false) (λ v. IsInRange 1 m v × Says v true × ((u : ℕ) → IsInRange 1 m u → u < v → Says u false))
