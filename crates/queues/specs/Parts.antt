-- The parts of the item table that the channels own. Assumes nothing.
use Rattle.std.specs.Prelude.{ℕ, ◌+◌, ◌<◌, ◌≤◌, List, slice_index_or}
use Rattle.counts.specs.Steps.{Ready}
use Rattle.queues.specs.declared.queue.Queue.{Queue}

abbrev pub blank : Queue
blank = record { source = 0; sink = 0; size = 0; base = 0; fill = 0; oldest = 0 }

abbrev pub queue_in : List Queue → ℕ → Queue
queue_in qs e = slice_index_or qs e blank

-- Module v may fire, as far as the first n queues go.
abbrev pub ReadyIn : List Queue → ℕ → ℕ → Type 0
ReadyIn qs v n = Ready (λ e. (queue_in qs e).source) (λ e. (queue_in qs e).sink) (λ e. (queue_in qs e).size) (λ e. (queue_in qs e).fill) v n

-- The numbers of each of the first n queues keep to their ranges, and its part lies within the first `entries` entries of the table.
abbrev pub Sounds : ℕ → List Queue → ℕ → Type 0
Sounds n qs entries = (e : ℕ) → e < n → ((queue_in qs e).size ≤ 16) × ((queue_in qs e).fill ≤ (queue_in qs e).size + 1) × ((queue_in qs e).oldest ≤ (queue_in qs e).size) × ((queue_in qs e).base + (queue_in qs e).size < entries)

-- The parts of the first n queues lie one behind the other.
abbrev pub Apart : ℕ → List Queue → Type 0
Apart n qs = (d e : ℕ) → d < e → e < n → (queue_in qs d).base + (queue_in qs d).size < (queue_in qs e).base
