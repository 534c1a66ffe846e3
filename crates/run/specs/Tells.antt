-- `Told` of a whole run. Assumes nothing.
use Rattle.std.specs.Prelude.{ℕ, Bool, List}
use Rattle.cores.specs.Rules.{Rules}
use Rattle.calls.specs.Calls.{Count}
use Rattle.queues.specs.Strict.{Chip}
use Rattle.run.specs.declared.run.Run.{Run}
use Rattle.run.specs.Told.{Told}

-- the run is as it should be after calls that come to the counts c, and so is the table, which was `before` at first
abbrev pub Tells : {C Item State : Type 0} → Bool → (C → Rules Item State) → (C → ℕ → State) → Chip Item State → Count → List Item → Run C → List Item → Type 0
Tells ok rules held chip c before run table = Told ok before chip c run.inner (rules run.cores) (held run.cores) table
