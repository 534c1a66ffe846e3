-- The three faults that a module may have, and the lowest module that has one. Assumes nothing.
use Rattle.std.specs.Prelude.{◌≡◌, ℕ, ◌<◌, ◌⊎◌, List, length, ◌≢◌}
use Rattle.std.specs.Int.{IsInRange}
use Rattle.netlist.specs.declared.netlist.Netlist.{Netlist}
use Rattle.checking.specs.Nets.{Hops, Leads, Relay, Way, inputs, outputs}

-- a relay station without exactly one input channel, or without an output channel
abbrev pub Loose : Netlist → ℕ → Type 0
Loose n v = Relay n v × ((inputs n v ≢ 1) ⊎ (outputs n v ≡ 0))

-- no way leads from module 1 to v
abbrev pub Apart : Netlist → ℕ → Type 0
Apart n v = (es : List ℕ) → Way n 1 es v → ⊥

-- v is on a ring of relay stations only: one or more channels between relay stations lead from it back to it
abbrev pub Ringed : Netlist → ℕ → Type 0
Ringed n v = (es : List ℕ) × (0 < length es) × Leads (Hops n) v es v

-- none of the numbers from 1 to m has P
abbrev pub Nobody : ℕ → (ℕ → Type 0) → Type 0
Nobody m P = (v : ℕ) → IsInRange 1 m v → P v → ⊥

-- v is the lowest of them that has P
pub record Lowest (m : ℕ) (P : ℕ → Type 0) (v : ℕ) : Type 0 where
  pub within : IsInRange 1 m v
  pub has : P v
  pub none_lower : (u : ℕ) → IsInRange 1 m u → u < v → P u → ⊥
