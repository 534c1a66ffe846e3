-- What a run's records, its cores' states and the item table are at given counts. Assumes nothing.
use Rattle.std.specs.Prelude.{◌≡◌, ℕ, ◌+◌, ◌^◌, ◌<◌, ◌≤◌, Bool, true, false, List, Decides, slice_index_or}
use Rattle.cores.specs.Rules.{Rules}
use Rattle.counts.specs.Origins.{Enabled, base, puts}
use Rattle.calls.specs.Calls.{Count, put}
use Rattle.queues.specs.Flows.{ReadyAt}
use Rattle.queues.specs.Stands.{Stands}
use Rattle.queues.specs.Strict.{Chip}
use Rattle.run.specs.declared.inner.Inner.{Inner}
use Rattle.run.specs.declared.inner.ModuleState.{ModuleState}

abbrev pub unused : ModuleState
unused = record { firings = 0; marked = false }

-- the module with the number k + 1
abbrev pub state_at : Inner → ℕ → ModuleState
state_at i k = slice_index_or i.states k unused

-- An array of the modules has at place k what is said of the module with the number k + 1.
abbrev pub Lists : {X : Type 0} → ℕ → List X → X → (ℕ → X) → Type 0
Lists modules xs d f = (k : ℕ) → k < modules → slice_index_or xs k d ≡ f (k + 1)

-- Each of the modules has fired as often as f says.
abbrev pub Counts : ℕ → Inner → (ℕ → ℕ) → Type 0
Counts modules i f = (k : ℕ) → k < modules → (state_at i k).firings ≡ f (k + 1)

-- The records, the cores and the table are as they should be after calls that come to the counts c. `before` is the table as it was first
-- handed in. Where `ok` is false nothing is said of items and states, only of the counts.
pub record Told {Item State : Type 0} (ok : Bool) (before : List Item) (chip : Chip Item State) (c : Count) (i : Inner) (rules : Rules Item State) (held : ℕ → State) (table : List Item) : Type 0 where
  pub stands : Stands ok before chip c.firings (put chip.net c) i.channels rules held table
  pub modules : i.modules ≡ chip.net.modules
  pub entries : i.channels.entries ≡ base chip.net.size chip.net.channels
  pub blocks : Lists i.modules i.blocks false chip.net.block
  pub firings : Counts i.modules i c.firings
  pub marks : (k : ℕ) → k < i.modules → (state_at i k).marked ≡ c.marks (k + 1)
  pub primed : i.primed ≡ c.primed
  pub steps : i.steps ≡ c.steps
  -- no module fires more often than there are steps, and none before the run is primed
  pub few : (v : ℕ) → c.firings v ≤ c.steps
  pub still : c.primed ≡ false → (v : ℕ) → c.firings v ≡ 0

-- what a step's firings leave as it is
pub record Framed (i j : Inner) : Type 0 where
  pub modules : i.modules ≡ j.modules
  pub entries : i.channels.entries ≡ j.channels.entries
  pub blocks : i.blocks ≡ j.blocks
  pub marks : (k : ℕ) → (state_at i k).marked ≡ (state_at j k).marked
  pub primed : i.primed ≡ j.primed
  pub steps : i.steps ≡ j.steps

-- The modules that `go` names can fire together.
pub record Planned {Item State : Type 0} (ok : Bool) (before : List Item) (chip : Chip Item State) (firings : ℕ → ℕ) (go : ℕ → Bool) (i : Inner) (rules : Rules Item State) (held : ℕ → State) (table : List Item) (firing : List Bool) : Type 0 where
  pub stands : Stands ok before chip firings (puts chip.net firings) i.channels rules held table
  pub modules : i.modules ≡ chip.net.modules
  pub blocks : Lists i.modules i.blocks false chip.net.block
  pub counts : Counts i.modules i firings
  pub going : Lists i.modules firing false go
  pub small : (v : ℕ) → firings v + 1 < 2 ^ 32
  pub only : (v : ℕ) → go v ≡ true → (1 ≤ v) × (v ≤ chip.net.modules)
  pub enabled : (v : ℕ) → go v ≡ true → Enabled chip.net firings v

-- of the first n modules, `firing` names those that are not marked and are ready by the records
abbrev pub Judged : Inner → List Bool → ℕ → Type 0
Judged i firing n = (k : ℕ) → k < n → Decides (slice_index_or firing k false) (((state_at i k).marked ≡ false) × ReadyAt i.channels (k + 1) i.channels.count)
