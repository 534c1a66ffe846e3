-- What a run says of another item table than the one that it worked on. Assumes nothing.
use Rattle.std.proofs.Common.{◌≡◌, ℕ, ◌<◌, ◌≤◌, Bool, true, false, List, get_or, arith}
use Rattle.std.proofs.lemmas.Bool.{false≢true}
use Rattle.cores.specs.Rules.{Rules}
use Rattle.calls.specs.Calls.{Count, put}
use Rattle.queues.specs.Flows.{Flows}
use Rattle.queues.specs.Stands.{items}
use Rattle.queues.specs.Strict.{Chip, strict}
use Rattle.queues.proofs.Replacing.{laid_of}
use Rattle.queues.proofs.Tables.{flows_alike, flows_counts}
use Rattle.run.specs.declared.inner.Inner.{Inner}
use Rattle.run.specs.Told.{Told}

module _ {Item State : Type 0} (ok : Bool) (before : List Item) (chip : Chip Item State) (c : Count) (i : Inner) (r : Rules Item State) (h : ℕ → State) (t : List Item) (td : Told ok before chip c i r h t) where
  abbrev took : ℕ → ℕ
  took e = c.firings (chip.net.sink e)

  with_flows : (ok' : Bool) (before' t' : List Item) → Flows ok' before' i.channels t' took (put chip.net c) (items chip)
      → (ok' ≡ true → (v : ℕ) → 1 ≤ v → chip.net.block v ≡ true → h v ≡ (strict chip (c.firings v)).state v) → Told ok' before' chip c i r h t'
  with_flows ok' before' t' fl states = record {
    stands = record { lawful = td.stands.lawful; matches = td.stands.matches; same_rules = td.stands.same_rules; flows = fl; states = states; rest = td.stands.rest };
    modules = td.modules;
    entries = td.entries;
    blocks = td.blocks;
    firings = td.firings;
    marks = td.marks;
    primed = td.primed;
    steps = td.steps;
    few = td.few;
    still = td.still;
  }

  -- the counts say nothing of the items: they stand whatever becomes of the table
  pub told_counts : (before' t' : List Item) → Told false before' chip c i r h t'
  told_counts before' t' = with_flows false before' t' (flows_counts i.channels t ok before took (put chip.net c) (items chip) td.stands.flows before' t') (λ y. absurd (false≢true y))

  -- another table with the same entries in the channels' parts, and behind them those it had at first
  pub told_alike : (before' t' : List Item) → ((k : ℕ) (d : Item) → k < i.channels.entries → get_or t' k d ≡ get_or t k d) → ((k : ℕ) (d : Item) → k < i.channels.entries → get_or before' k d ≡ get_or before k d)
      → ((k : ℕ) (d : Item) → i.channels.entries ≤ k → get_or t' k d ≡ get_or before' k d) → Told ok before' chip c i r h t'
  told_alike before' t' same same_before behind =
      with_flows ok before' t'
      (flows_alike i.channels t ok before took (put chip.net c) (items chip) td.stands.flows before' t' i.channels.entries
      (laid_of i.channels i.channels.entries (omega arith)) same same_before behind)
      td.stands.states
