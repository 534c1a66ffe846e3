-- The channels and the cores against the strict machine. Assumes nothing.
use Rattle.std.specs.Prelude.{◌≡◌, ℕ, ◌<◌, ◌≤◌, Bool, true, false, List}
use Rattle.cores.specs.Rules.{Rules}
use Rattle.counts.specs.Nets.{Net}
use Rattle.counts.specs.Origins.{Lawful, origin, base}
use Rattle.queues.specs.declared.channels.Channels.{Channels}
use Rattle.queues.specs.Flows.{Flows, queue_at}
use Rattle.queues.specs.Strict.{Chip, strict}

-- the queues have the netlist's channels
pub record Matches (net : Net) (w : Channels) : Type 0 where
  pub channels : net.channels ≡ w.count
  pub source : (e : ℕ) → net.source e ≡ (queue_at w e).source
  pub sink : (e : ℕ) → net.sink e ≡ (queue_at w e).sink
  pub size : (e : ℕ) → net.size e ≡ (queue_at w e).size
  pub base_is : (e : ℕ) → e < net.channels → base net.size e ≡ (queue_at w e).base

-- what channel e is given, item by item
abbrev pub items : {Item State : Type 0} → Chip Item State → ℕ → ℕ → Item
items chip e k = (strict chip k).item (origin chip.net e)

-- The channels and the cores stand where the modules have fired `firings` times and `put` items were put into each channel.
pub record Stands {Item State : Type 0} (ok : Bool) (before : List Item) (chip : Chip Item State) (firings put : ℕ → ℕ) (w : Channels) (rules : Rules Item State) (held : ℕ → State) (table : List Item) : Type 0 where
  pub lawful : Lawful chip.net
  pub matches : Matches chip.net w
  pub same_rules : rules ≡ chip.rules
  pub flows : Flows ok before w table (λ e. firings (chip.net.sink e)) put (items chip)
  pub states : ok ≡ true → (v : ℕ) → 1 ≤ v → chip.net.block v ≡ true → held v ≡ (strict chip (firings v)).state v
  pub rest : (v : ℕ) → 1 ≤ v → chip.net.block v ≡ false → held v ≡ chip.start v
