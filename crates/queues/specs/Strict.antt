-- The strict machine: blocks alone, with no queues. Assumes nothing.
use Rattle.std.specs.Prelude.{ℕ, zero, suc, cond, ◌==◌}
use Rattle.cores.specs.Rules.{Rules}
use Rattle.counts.specs.Nets.{Net}
use Rattle.counts.specs.Origins.{origin}

-- what a run is made from
pub record Chip (Item State : Type 0) : Type 0 where
  pub net : Net
  pub rules : Rules Item State
  pub start : ℕ → State

pub record Moment (Item State : Type 0) : Type 0 where
  pub item : ℕ → Item
  pub state : ℕ → State

-- the state of v after it absorbs, in order, what those of the first n channels that lead to it bring
unfoldable pub intake : {Item State : Type 0} → (ℕ → State → Item → State) → (ℕ → ℕ) → (ℕ → Item) → ℕ → State → ℕ → State
intake absorb sink brings v s zero = s
intake absorb sink brings v s (suc n) = cond (sink n == v) (absorb v (intake absorb sink brings v s n) (brings n)) (intake absorb sink brings v s n)

abbrev pub fed : {Item State : Type 0} → Chip Item State → Moment Item State → ℕ → State
fed chip m v = intake chip.rules.absorb chip.net.sink (λ e. m.item (origin chip.net e)) v (m.state v) chip.net.channels

-- after n strict steps
unfoldable pub strict : {Item State : Type 0} → Chip Item State → ℕ → Moment Item State
strict chip zero = record { item = chip.rules.reset; state = chip.start }
strict chip (suc n) = record { item = λ v. chip.rules.item v (fed chip (strict chip n) v); state = λ v. chip.rules.next v (fed chip (strict chip n) v) }
