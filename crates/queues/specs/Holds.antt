-- One channel and its part of the item table. Assumes nothing.
use Rattle.std.specs.Prelude.{◌≡◌, ℕ, ◌+◌, ◌%◌, ◌<◌, ◌≤◌, Bool, true, List, Some, None, Option, slice_index_or}
use Rattle.queues.specs.declared.queue.Queue.{Queue}

-- The numbers keep to their ranges, and its part lies within a table of `len` entries.
pub record Sound (c : Queue) (len : ℕ) : Type 0 where
  pub size_high : c.size ≤ 16
  pub fill_high : c.fill ≤ c.size + 1
  pub oldest_high : c.oldest ≤ c.size
  pub within : c.base + c.size < len

-- The same source and sink, the same queue size, the same part of the table.
pub record Alike (c d : Queue) : Type 0 where
  pub source : c.source ≡ d.source
  pub sink : c.sink ≡ d.sink
  pub size : c.size ≡ d.size
  pub base : c.base ≡ d.base

-- Of the items of `stream`, `put` were put in and `took` taken. Items go into the entries in turn: each of the last size + 1 that were put lies at its entry, and an entry
-- that none was put into has what it had in the table `before`.
-- Where `ok` is false it says how many items there are, and not which.
pub record Holds {Item : Type 0} (ok : Bool) (before : List Item) (c : Queue) (table : List Item) (took put : ℕ) (stream : ℕ → Item) : Type 0 where
  pub count : took + c.fill ≡ put
  pub turn : c.oldest ≡ took % (c.size + 1)
  pub items : ok ≡ true → (k : ℕ) (d : Item) → k < put → put ≤ k + (c.size + 1) → slice_index_or table (c.base + k % (c.size + 1)) d ≡ stream k
  pub rest : ok ≡ true → (j : ℕ) (d : Item) → j ≤ c.size → put ≤ j → slice_index_or table (c.base + j) d ≡ slice_index_or before (c.base + j) d

-- an item is there, and is x
abbrev pub Gives : {Item : Type 0} → Bool → Option Item → Item → Type 0
Gives ok (Some y) x = ok ≡ true → y ≡ x
Gives ok None x = ⊥
