-- What a run is made from, and what its records are then. Assumes nothing.
use Rattle.std.specs.Prelude.{◌≡◌, ℕ, ◌*◌, ◌<◌, ◌≤◌, List, length, get_or, slice_index, slice_index_or}
use Rattle.cores.specs.Rules.{Rules}
use Rattle.netlist.specs.declared.channel.Channel.{Channel}
use Rattle.netlist.specs.declared.netlist.Netlist.{Netlist}
use Rattle.counts.specs.Nets.{net_of}
use Rattle.counts.specs.Origins.{base}
use Rattle.queues.specs.declared.queue.Queue.{Queue}
use Rattle.queues.specs.Parts.{blank}
use Rattle.queues.specs.Strict.{Chip}

-- a netlist under a sizing, with cores that have these rules and at first these states
abbrev pub chip_of : {Item State : Type 0} → Netlist → List ℕ → Rules Item State → (ℕ → State) → Chip Item State
chip_of n sizing rules start = record { net = net_of n sizing; rules = rules; start = start }

abbrev pub nowhere : Channel
nowhere = record { source = 0; sink = 0 }

abbrev pub size_at : List ℕ → ℕ → ℕ
size_at sizing e = slice_index sizing e

-- the record of the channel at place e, with no items
abbrev pub queue_of : List Channel → List ℕ → ℕ → Queue
queue_of cs qs e = record { source = (get_or cs e nowhere).source; sink = (get_or cs e nowhere).sink; size = size_at qs e; base = base (size_at qs) e; fill = 0; oldest = 0 }

-- the first n channels are laid out, and the next part begins at `next`
pub record LaidOut (cs : List Channel) (qs : List ℕ) (queues : List Queue) (n next : ℕ) : Type 0 where
  pub len : length queues ≡ 192
  pub done : (e : ℕ) → e < n → slice_index_or queues e blank ≡ queue_of cs qs e
  pub rest : (e : ℕ) → n ≤ e → slice_index_or queues e blank ≡ blank
  pub next_is : next ≡ base (size_at qs) n
  pub next_high : next ≤ 17 * n

-- no queue is larger than 16
abbrev pub Small : List ℕ → Type 0
Small qs = (e : ℕ) → e < length qs → size_at qs e ≤ 16
