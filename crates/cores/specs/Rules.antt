-- What the cores of a set do, as functions of the module's number. Assumes nothing.
use Rattle.std.specs.Prelude.{ℕ}

-- the item that a block's channels start with; the state after an item is absorbed; the item that is emitted in a state, and the state after that
pub record Rules (Item State : Type 0) : Type 0 where
  pub reset : ℕ → Item
  pub absorb : ℕ → State → Item → State
  pub item : ℕ → State → Item
  pub next : ℕ → State → State
