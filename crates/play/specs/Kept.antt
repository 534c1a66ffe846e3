-- What is promised of a whole run, over every list of calls, the refused ones among them. Assumes nothing.
use Rattle.std.specs.Prelude.{◌≡◌, ℕ, ◌+◌, ◌-◌, ◌%◌, ◌<◌, ◌≤◌, true, false, List, length, slice_index_or}
use Rattle.std.specs.Int.{IsInRange}
use Rattle.cores.specs.Rules.{Rules}
use Rattle.netlist.specs.declared.netlist.Netlist.{Netlist}
use Rattle.netlist.specs.Holds.{channels, modules}
use Rattle.counts.specs.Nets.{Net, largest, net_of}
use Rattle.counts.specs.Origins.{base, origin}
use Rattle.counts.specs.Steps.{freely}
use Rattle.calls.specs.Calls.{Call, counted, entries, fill_of, put}
use Rattle.calls.specs.Laws.{KeepsUp, StaysNear, fired, holds, steps}
use Rattle.queues.specs.Strict.{Chip, strict}
use Rattle.run.specs.Making.{chip_of}

-- how many items wait in the channel with the number e, how many were put into it, and where item k lies in the table
abbrev pub waits : Net → List Call → ℕ → ℕ
waits net calls e = fill_of net (counted net calls) (e - 1)

abbrev pub puts_into : Net → List Call → ℕ → ℕ
puts_into net calls e = put net (counted net calls) (e - 1)

abbrev pub entry : Net → ℕ → ℕ → ℕ
entry net e k = base net.size (e - 1) + k % (net.size (e - 1) + 1)

-- item k of the origin of channel e
abbrev pub item_of : {Item State : Type 0} → Chip Item State → ℕ → ℕ → Item
item_of chip e k = (strict chip k).item (origin chip.net (e - 1))

-- A run of the netlist n under a sizing, with the rate P/L, over cores with these rules and at first the states `start`: after the calls
-- the cores have the states `held`, and the item table, which was `before`, is `table`.
pub record Kept {Item State : Type 0} (n : Netlist) (sizing : List ℕ) (P L : ℕ) (rules : Rules Item State) (start : ℕ → State) (calls : List Call) (held : ℕ → State) (before table : List Item) : Type 0 where
  -- a channel with f items, whose sink has fired c times, holds the items c to c + f - 1 of its origin, each at its entry
  pub waiting : (e : ℕ) → IsInRange 1 (channels n) e → (k : ℕ) → k < waits (net_of n sizing) calls e → (d : Item) →
      let c = fired (net_of n sizing) calls ((net_of n sizing).sink (e - 1)) in
      slice_index_or table (entry (net_of n sizing) e (c + k)) d ≡ item_of (chip_of n sizing rules start) e (c + k)
  pub room : (e : ℕ) → IsInRange 1 (channels n) e → waits (net_of n sizing) calls e ≤ (net_of n sizing).size (e - 1) + 1
  -- every entry of a channel's part has the last item that was put there, and what it had before if there was none
  pub latest : (e : ℕ) → IsInRange 1 (channels n) e → (k : ℕ) → k < puts_into (net_of n sizing) calls e → puts_into (net_of n sizing) calls e ≤ k + ((net_of n sizing).size (e - 1) + 1) → (d : Item) →
      slice_index_or table (entry (net_of n sizing) e k) d ≡ item_of (chip_of n sizing rules start) e k
  pub untouched : (e : ℕ) → IsInRange 1 (channels n) e → (j : ℕ) → j ≤ (net_of n sizing).size (e - 1) → puts_into (net_of n sizing) calls e ≤ j → (d : Item) →
      slice_index_or table (base (net_of n sizing).size (e - 1) + j) d ≡ slice_index_or before (base (net_of n sizing).size (e - 1) + j) d
  -- and every entry behind all parts keeps its content
  pub behind : (k : ℕ) → entries (net_of n sizing) ≤ k → (d : Item) → slice_index_or table k d ≡ slice_index_or before k d
  pub same_length : length table ≡ length before
  -- a block that has fired k times has the state after the strict step k; no other state has changed
  pub cores : (v : ℕ) → 1 ≤ v → (net_of n sizing).block v ≡ true → held v ≡ (strict (chip_of n sizing rules start) (fired (net_of n sizing) calls v)).state v
  pub others : (v : ℕ) → 1 ≤ v → (net_of n sizing).block v ≡ false → held v ≡ start v
  -- with t steps, h of them held, no module is behind t - h free steps, nor behind any other calls with at most t - h steps
  pub no_setback : (v : ℕ) → IsInRange 1 (modules n) v → freely (net_of n sizing) (steps (net_of n sizing) calls - holds (net_of n sizing) calls) v ≤ fired (net_of n sizing) calls v
  pub not_behind : (alike : List Call) → steps (net_of n sizing) alike + holds (net_of n sizing) calls ≤ steps (net_of n sizing) calls →
      (v : ℕ) → IsInRange 1 (modules n) v → fired (net_of n sizing) alike v ≤ fired (net_of n sizing) calls v
  -- every module keeps to the rate: P (t + 1) ≤ L x + P (h + N) and L x ≤ P t + L (N - 1) (Q + 2)
  pub lower : (v : ℕ) → IsInRange 1 (modules n) v → KeepsUp P L (net_of n sizing) calls v
  pub upper : (v : ℕ) → IsInRange 1 (modules n) v → StaysNear P L (largest sizing) (net_of n sizing) calls v
