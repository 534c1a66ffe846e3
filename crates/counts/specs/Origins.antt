-- Which part of the item table a channel owns, and which block a channel's items come from. Assumes nothing.
use Rattle.std.specs.Prelude.{◌≡◌, ℕ, zero, suc, ◌+◌, ◌<◌, ◌≤◌, true, false, cond, ◌==◌}
use Rattle.counts.specs.Nets.{Net, first_items}

-- the entries of the item table before those of the channel at place e: each channel has one more than its queue size
unfoldable pub base : (ℕ → ℕ) → ℕ → ℕ
base size zero = 0
base size (suc e) = base size e + (size e + 1)

-- the last of the first n channels that lead to v
unfoldable pub feeder : Net → ℕ → ℕ → ℕ
feeder net v zero = 0
feeder net v (suc n) = cond (net.sink n == v) n (feeder net v n)

-- the block that a channel's items come from, through at most k relay stations
unfoldable pub origin_by : Net → ℕ → ℕ → ℕ
origin_by net zero e = net.source e
origin_by net (suc k) e = cond (net.block (net.source e)) (net.source e) (origin_by net k (feeder net (net.source e) net.channels))

-- the origin of a channel: its source if that is a block, otherwise the origin of that relay station's input channel
unfoldable pub origin : Net → ℕ → ℕ
origin net e = origin_by net net.modules e

-- what a checked netlist keeps to
pub record Lawful (net : Net) : Type 0 where
  pub source_low : (e : ℕ) → e < net.channels → 1 ≤ net.source e
  pub source_high : (e : ℕ) → e < net.channels → net.source e ≤ net.modules
  pub sink_low : (e : ℕ) → e < net.channels → 1 ≤ net.sink e
  pub sink_high : (e : ℕ) → e < net.channels → net.sink e ≤ net.modules
  -- a relay station has one channel that leads to it
  pub relay_input : (v : ℕ) → 1 ≤ v → v ≤ net.modules → net.block v ≡ false → (d : ℕ) × (d < net.channels) × (net.sink d ≡ v) × ((e : ℕ) → e < net.channels → net.sink e ≡ v → e ≡ d)
  pub from_block : (e : ℕ) → e < net.channels → net.block (net.source e) ≡ true → origin net e ≡ net.source e
  pub from_relay : (d e : ℕ) → d < net.channels → e < net.channels → net.block (net.source e) ≡ false → net.sink d ≡ net.source e → origin net e ≡ origin net d

-- how many items have come into a channel, once primed, where the modules have fired so often
abbrev pub puts : Net → (ℕ → ℕ) → ℕ → ℕ
puts net firings e = firings (net.source e) + first_items net e

-- v may fire: each channel to it has an item, and each from it has at most as many as its queue size
pub record Enabled (net : Net) (firings : ℕ → ℕ) (v : ℕ) : Type 0 where
  pub low : 1 ≤ v
  pub high : v ≤ net.modules
  pub feeds : (e : ℕ) → e < net.channels → net.sink e ≡ v → firings (net.sink e) < puts net firings e
  pub room : (e : ℕ) → e < net.channels → net.source e ≡ v → puts net firings e ≤ firings (net.sink e) + net.size e
