-- The answers of the calls. Assumes nothing.
use Rattle.std.proofs.Common.{◌≡◌, ℕ, ◌+◌, ◌-◌, ◌<◌, ◌≤◌, Bool, true, false, cond, eqb, ltb, leb, List, get_or, Some, None, Ok, Option, Result, sym, ap, ◌∙◌, arith, MatchOption}
use Rattle.std.proofs.lemmas.Bool.{le-ltb, eq-eqb, ne_eqb, or_from, lt-leb, cond-true, cond-false}
use Rattle.netlist.specs.declared.refusal.Refusal.{Refusal}
use Rattle.cores.specs.Rules.{Rules}
use Rattle.calls.specs.Calls.{put}
use Rattle.queues.specs.Flows.{queue_at}
use Rattle.queues.specs.Stands.{items}
use Rattle.queues.proofs.Queues.{front as oldest_item}
use Rattle.calls.specs.Calls.{Count, fill_of, entries, front, no_channel, no_such_number, out_of_turn, prime, refusal, short_table, spent, step}
use Rattle.queues.specs.Strict.{Chip}
use Rattle.run.specs.declared.inner.Inner.{Inner}
use Rattle.run.specs.Replies.{front_item, reply}
use Rattle.run.specs.Told.{Told}

module _ {Item State : Type 0} (ok : Bool) (before : List Item) (chip : Chip Item State) (c : Count) (i : Inner) (r : Rules Item State) (h : ℕ → State) (t : List Item) (td : Told ok before chip c i r h t) where
  -- the tests of a step are those of the records
  step_tests : (p s m : Bool) → i.primed ≡ p → (len : ℕ) → ltb len i.channels.entries ≡ s → leb 100000000 i.steps ≡ m
      → refusal chip.net c (step len) ≡ cond p (cond s (Some (short_table chip.net)) (cond m (Some spent) None)) (Some out_of_turn)
  step_tests p s m a len b d =
      ap (λ x. cond x (cond (ltb len (entries chip.net)) (Some (short_table chip.net)) (cond (leb 100000000 c.steps) (Some spent) None)) (Some out_of_turn)) (sym td.primed ∙ a)
      ∙ ap (λ x. cond p (cond x (Some (short_table chip.net)) (cond (leb 100000000 c.steps) (Some spent) None)) (Some out_of_turn)) (ap (ltb len) (sym td.entries) ∙ b)
      ∙ ap (λ x. cond p (cond s (Some (short_table chip.net)) (cond x (Some spent) None)) (Some out_of_turn)) (ap (λ n. leb 100000000 n) (sym td.steps) ∙ d)

  accepted : (o : Option Refusal) → o ≡ None → ◌≡◌ {A = Result (Unit {0}) Refusal} (Ok tt) (reply o tt)
  accepted o e = ap (λ (y : Option Refusal). reply {X = Unit {0}} y tt) (sym e)

  pub step_ok : (len : ℕ) → i.primed ≡ true → i.channels.entries ≤ len → i.steps < 100000000 → ◌≡◌ {A = Result (Unit {0}) Refusal} (Ok tt) (reply (refusal chip.net c (step len)) tt)
  step_ok len p le ne = accepted _ (step_tests true false false p len (le-ltb len i.channels.entries le) (lt-leb 100000000 i.steps ne))

  pub prime_ok : (len : ℕ) → i.primed ≡ false → i.channels.entries ≤ len → ◌≡◌ {A = Result (Unit {0}) Refusal} (Ok tt) (reply (refusal chip.net c (prime len)) tt)
  prime_ok len p le = accepted _
      (ap (λ x. cond x (Some out_of_turn) (cond (ltb len (entries chip.net)) (Some (short_table chip.net)) None)) (sym td.primed ∙ p)
      ∙ ap (λ x. cond x (Some (short_table chip.net)) None) (ap (ltb len) (sym td.entries) ∙ le-ltb len i.channels.entries le))

  front_ok : (len e : ℕ) → i.primed ≡ true → i.channels.entries ≤ len → (e ≡ 0 → ⊥) → e ≤ chip.net.channels → refusal chip.net c (front e len) ≡ None
  front_ok len e p le ne high =
      let third : Option Refusal = cond (ltb len (entries chip.net)) (Some (short_table chip.net)) None in
      let second : Option Refusal = cond (no_channel chip.net e) (Some no_such_number) third in
      cond-true c.primed second (Some out_of_turn) (sym td.primed ∙ p)
      ∙ cond-false (no_channel chip.net e) (Some no_such_number) third (or_from (eqb e 0) (ltb chip.net.channels e) (ne_eqb e 0 ne) (le-ltb chip.net.channels e high))
      ∙ cond-false (ltb len (entries chip.net)) (Some (short_table chip.net)) None (ap (ltb len) (sym td.entries) ∙ le-ltb len i.channels.entries le)

  -- what the record of the channel at place e gives as its oldest item
  abbrev Oldest : ℕ → Option Item → Type 0
  Oldest e o = MatchOption o ((queue_at i.channels e).fill ≡ 0) (λ x. (1 ≤ (queue_at i.channels e).fill) × ((d : Item) → x ≡ get_or t ((queue_at i.channels e).base + (queue_at i.channels e).oldest) d))

  oldest_is : (e : ℕ) (o : Option Item) → ok ≡ true → e - 1 < i.channels.count → Oldest (e - 1) o → o ≡ front_item chip c e
  oldest_is e None sure lt none =
      let hd = td.stands.flows.each (e - 1) lt in
      sym (cond-true (eqb (fill_of chip.net c (e - 1)) 0) None (Some (items chip (e - 1) (c.firings (chip.net.sink (e - 1))))) (eq-eqb (fill_of chip.net c (e - 1)) 0 (omega (arith, hd.count, none))))
  oldest_is e (Some x) sure lt some =
      let hd = td.stands.flows.each (e - 1) lt in
      let took = c.firings (chip.net.sink (e - 1)) in
      let is : x ≡ items chip (e - 1) took =
      oldest_item (queue_at i.channels (e - 1)) t ok before took (put chip.net c (e - 1)) (items chip (e - 1)) hd sure x (omega (arith, hd.count, some.0)) (i.channels.sounds (e - 1) lt).1 (some.1 x) in
      ap (λ (y : Item). Some y) is
      ∙ sym (cond-false (eqb (fill_of chip.net c (e - 1)) 0) None (Some (items chip (e - 1) took)) (ne_eqb (fill_of chip.net c (e - 1)) 0 (λ z. omega (arith, hd.count, some.0, z))))

  pub front_told : (len e : ℕ) (o : Option Item) → ok ≡ true → i.primed ≡ true → i.channels.entries ≤ len → (e ≡ 0 → ⊥) → e ≤ i.channels.count → Oldest (e - 1) o
      → Ok o ≡ reply (refusal chip.net c (front e len)) (front_item chip c e)
  front_told len e o sure p le ne high old =
      ap (λ (z : Option Item). Ok z) (oldest_is e o sure (omega (arith, ne)) old)
      ∙ ap (λ (y : Option Refusal). reply y (front_item chip c e)) (sym (front_ok len e p le ne (omega (arith, td.stands.matches.channels))))
