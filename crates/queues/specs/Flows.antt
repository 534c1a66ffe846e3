-- All channels and the item table. Assumes nothing.
use Rattle.std.specs.Prelude.{◌≡◌, ℕ, ◌+◌, ◌-◌, ◌<◌, ◌≤◌, Bool, true, false, cond, ◌&&◌, ◌⊎◌, List, ◌==◌, nat_lt, slice_index_or}
use Rattle.queues.specs.declared.queue.Queue.{Queue}
use Rattle.queues.specs.declared.channels.Channels.{Channels}
use Rattle.queues.specs.Holds.{Sound, Alike, Holds}
use Rattle.queues.specs.Parts.{ReadyIn, queue_in}

abbrev pub queue_at : Channels → ℕ → Queue
queue_at w e = queue_in w.queues e

-- The parts of a table of `len` entries lie one behind the other.
pub record Laid (w : Channels) (len : ℕ) : Type 0 where
  pub count_high : w.count ≤ 192
  pub each : (e : ℕ) → e < w.count → Sound (queue_at w e) len
  pub apart : (d e : ℕ) → d < e → e < w.count → (queue_at w d).base + (queue_at w d).size < (queue_at w e).base

-- The netlist is as it was.
pub record Kept (w v : Channels) : Type 0 where
  pub count : w.count ≡ v.count
  pub entries : w.entries ≡ v.entries
  pub each : (e : ℕ) → Alike (queue_at w e) (queue_at v e)

-- Every channel holds what was put in, up to what was taken, of its stream, and the table is `before` but for what was put.
pub record Flows {Item : Type 0} (ok : Bool) (before : List Item) (w : Channels) (table : List Item) (took put : ℕ → ℕ) (stream : ℕ → ℕ → Item) : Type 0 where
  pub each : (e : ℕ) → e < w.count → Holds ok before (queue_at w e) table (took e) (put e) (stream e)
  -- an entry in no channel's part has what it had before
  pub beyond : ok ≡ true → (k : ℕ) (d : Item) → ((e : ℕ) → e < w.count → (k < (queue_at w e).base) ⊎ ((queue_at w e).base + (queue_at w e).size < k)) → slice_index_or table k d ≡ slice_index_or before k d

-- one more at i
abbrev pub bump : (ℕ → ℕ) → ℕ → ℕ → ℕ
bump f i j = f j + cond (j == i) 1 0

-- one more where the test says so
abbrev pub more : (ℕ → ℕ) → (ℕ → Bool) → ℕ → ℕ
more f t e = f e + cond (t e) 1 0

-- does the channel lead from v, to v
abbrev pub from : Channels → ℕ → ℕ → Bool
from w v e = (queue_at w e).source == v

abbrev pub into : Channels → ℕ → ℕ → Bool
into w v e = (queue_at w e).sink == v

-- the test, at the first n places only
abbrev pub first : ℕ → (ℕ → Bool) → ℕ → Bool
first n t e = nat_lt e n && t e

-- Each channel from v has room, and `item` is what it is to get next.
pub record Opens {Item : Type 0} (ok : Bool) (w : Channels) (v : ℕ) (item : Item) (took put : ℕ → ℕ) (stream : ℕ → ℕ → Item) : Type 0 where
  pub room : (e : ℕ) → e < w.count → (queue_at w e).source ≡ v → put e ≤ took e + (queue_at w e).size
  pub next : ok ≡ true → (e : ℕ) → e < w.count → (queue_at w e).source ≡ v → item ≡ stream e (put e)

-- Channel d, and no other, leads to v.
pub record Sole (w : Channels) (v d : ℕ) : Type 0 where
  pub within : d < w.count
  pub here : (queue_at w d).sink ≡ v
  pub alone : (e : ℕ) → e < w.count → (queue_at w e).sink ≡ v → e ≡ d

-- Each channel to v has an item.
pub record Feeds (w : Channels) (v : ℕ) (took put : ℕ → ℕ) : Type 0 where
  pub each : (e : ℕ) → e < w.count → (queue_at w e).sink ≡ v → took e < put e

-- v is ready by the queues' fills
abbrev pub ReadyAt : Channels → ℕ → ℕ → Type 0
ReadyAt w v n = ReadyIn w.queues v n

-- What each channel from a block gets at the start: the block's reset item.
pub record Starts {Item : Type 0} (ok : Bool) (w : Channels) (blocks : List Bool) (reset : ℕ → Item) (took put : ℕ → ℕ) (stream : ℕ → ℕ → Item) : Type 0 where
  pub low : (e : ℕ) → e < w.count → 1 ≤ (queue_at w e).source
  pub high : (e : ℕ) → e < w.count → (queue_at w e).source ≤ 64
  pub room : (e : ℕ) → e < w.count → put e ≤ took e + (queue_at w e).size
  pub next : ok ≡ true → (e : ℕ) → e < w.count → slice_index_or blocks ((queue_at w e).source - 1) false ≡ true → reset (queue_at w e).source ≡ stream e (put e)

-- does the channel lead from a block
abbrev pub by_block : Channels → List Bool → ℕ → Bool
by_block w blocks e = slice_index_or blocks ((queue_at w e).source - 1) false
