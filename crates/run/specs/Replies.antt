-- What the calls of a run answer at given counts, and what counts they leave. Assumes nothing.
use Rattle.std.specs.Prelude.{ℕ, ◌-◌, cond, Some, None, Ok, Err, Option, Result, ◌==◌}
use Rattle.netlist.specs.declared.refusal.Refusal.{Refusal}
use Rattle.counts.specs.Origins.{origin}
use Rattle.calls.specs.Calls.{Count, fill_of}
use Rattle.queues.specs.Strict.{Chip, strict}

-- a refused call answers why, an accepted one x
abbrev pub reply : {X : Type 0} → Option Refusal → X → Result X Refusal
reply None x = Ok x
reply (Some why) x = Err why

-- a refused call leaves the counts c, an accepted one brings them to d
abbrev pub left_by : {X : Type 0} → Result X Refusal → Count → Count → Count
left_by (Ok _) c d = d
left_by (Err _) c d = c

-- the oldest item of the channel with the number e: of its origin's items the one that its sink takes next
abbrev pub front_item : {Item State : Type 0} → Chip Item State → Count → ℕ → Option Item
front_item chip c e = cond (fill_of chip.net c (e - 1) == 0) None (Some ((strict chip (c.firings (chip.net.sink (e - 1)))).item (origin chip.net (e - 1))))
