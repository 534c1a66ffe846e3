-- What the check answers. Assumes nothing.
use Rattle.std.specs.Prelude.{◌≡◌, ℕ, ◌<◌, ◌≤◌, ◌⊎◌, List, length}
use Rattle.std.specs.Int.{IsInRange}
use Rattle.netlist.specs.declared.netlist.Netlist.{Netlist}
use Rattle.netlist.specs.declared.refusal.Cause.TheVariants.{NotJoined, RelayEnds, RelayRing}
use Rattle.netlist.specs.declared.refusal.Refusal.{Refusal}
use Rattle.checking.specs.Faults.{Apart, Loose, Lowest, Nobody, Ringed}
use Rattle.netlist.specs.Holds.{channels, modules}
use Rattle.checking.specs.Nets.{Origin, Relay, Way, inputs, outputs}

-- no module has a fault
pub record Faultless (n : Netlist) : Type 0 where
  pub relay_ends : Nobody (modules n) (Loose n)
  pub joined : Nobody (modules n) (Apart n)
  pub no_ring : Nobody (modules n) (Ringed n)

-- What a netlist promises that passed: it has no fault, and what follows from that. Every relay station has one input channel and an
-- output channel; between any two modules there is a way of fewer channels than there are modules; and going back from any
-- channel one comes to a block, always the same and by the same number of relay stations, which is no more than there are modules
pub record Passed (n : Netlist) : Type 0 where
  pub faultless : Faultless n
  pub relays : (v : ℕ) → IsInRange 1 (modules n) v → Relay n v → (inputs n v ≡ 1) × (0 < outputs n v)
  pub ways : (u v : ℕ) → IsInRange 1 (modules n) u → IsInRange 1 (modules n) v → (es : List ℕ) × (length es < modules n) × Way n u es v
  pub origins : (e : ℕ) → IsInRange 1 (channels n) e → (k : ℕ) × (b : ℕ) × (k ≤ modules n) × IsInRange 1 (modules n) b × Origin n e k b
  pub one_origin : (e k b j a : ℕ) → IsInRange 1 (channels n) e → Origin n e k b → Origin n e j a → (k ≡ j) × (b ≡ a)

-- what a refusal says: the first fault that some module has, and the lowest such module
abbrev pub Refused : Netlist → Refusal → Type 0
Refused n x =
    ((x.cause ≡ RelayEnds) × Lowest (modules n) (Loose n) x.place)
    ⊎ (((x.cause ≡ NotJoined) × Nobody (modules n) (Loose n) × Lowest (modules n) (Apart n) x.place)
    ⊎ ((x.cause ≡ RelayRing) × Nobody (modules n) (Loose n) × Nobody (modules n) (Apart n) × Lowest (modules n) (Ringed n) x.place))
