-- A netlist under a sizing, by numbers alone: modules are numbered from 1, and the channel with the number e stands at place e - 1. Assumes nothing.
use Rattle.std.specs.Prelude.{ℕ, max, Bool, true, false, cond, List, [], ◌∷◌, slice_index, slice_index_or}
use Rattle.netlist.specs.declared.channel.Channel.{Channel}
use Rattle.netlist.specs.declared.kind.Kind.{Kind}
use Rattle.netlist.specs.declared.kind.Kind.TheVariants.{Block, RelayStation}
use Rattle.netlist.specs.declared.netlist.Netlist.{Netlist}
use Rattle.netlist.specs.Holds.{channels, channels_of, kind_of, modules}

-- how many modules and channels there are; is a module a block; the source, the sink and the queue size of the channel at a place
pub record Net : Type 0 where
  pub modules : ℕ
  pub channels : ℕ
  pub block : ℕ → Bool
  pub source : ℕ → ℕ
  pub sink : ℕ → ℕ
  pub size : ℕ → ℕ

abbrev pub is_block : Kind → Bool
is_block Block = true
is_block RelayStation = false

abbrev pub channel_at : Netlist → ℕ → Channel
channel_at n e = slice_index_or (channels_of n) e (record { source = 0; sink = 0 })

abbrev pub net_of : Netlist → List ℕ → Net
net_of n sizing = record {
  modules = modules n;
  channels = channels n;
  block = λ v. is_block (kind_of n v);
  source = λ e. (channel_at n e).source;
  sink = λ e. (channel_at n e).sink;
  size = λ e. slice_index sizing e;
}

-- at reset a block puts an item into each channel that leads from it, a relay station does not
abbrev pub first_items : Net → ℕ → ℕ
first_items net e = cond (net.block (net.source e)) 1 0

-- the largest queue of a sizing, 0 where there is none
abbrev pub largest : List ℕ → ℕ
largest [] = 0
largest (q ∷ qs) = max q (largest qs)
