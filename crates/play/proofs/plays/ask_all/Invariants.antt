use Rattle.std.proofs.Common.{◌≡◌, true, List, ◌++◌, length, take, drop}
use Rattle.calls.specs.Calls.{Count, counted_from}
use Rattle.queues.specs.Strict.{Chip}
use Rattle.run.specs.Tells.{Tells}
use Rattle.play.specs.Answers.{answered_from, calls_of}
use Rattle.play.proofs.plays.ask_all.Given as goal

abbrev pub invariant-loop-i : goal.invariant-loop-i
invariant-loop-i g l =
    let m = g.C.CoreSet in
    (chip : Chip g.row.C-Item.Denot g.row.C-State.Denot) (c : Count) (before : List g.row.C-Item.Denot) → Tells true m.rules m.held chip c before l.initial.run l.initial.table
    → (l.exchanges ≡ answered_from chip (length l.initial.table) c (take l.i l.initial.exchanges) ++ drop l.i l.initial.exchanges)
    × Tells true m.rules m.held chip (counted_from chip.net c (calls_of (length l.initial.table) (take l.i l.initial.exchanges))) before l.run l.table
