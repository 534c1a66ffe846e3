-- The call `prime`, against the counts. Assumes nothing.
use Rattle.std.proofs.Common.{◌≡◌, ℕ, ◌+◌, ◌-◌, ◌<◌, ◌≤◌, Bool, true, false, cond, List, get_or, sym, refl, ap, ◌∙◌, subst, ap₂, arith}
use Rattle.std.proofs.lemmas.Bool.{true≢false}
use Rattle.cores.specs.Rules.{Rules}
use Rattle.counts.specs.Origins.{origin, puts}
use Rattle.calls.specs.Calls.{Count, done, prime, put}
use Rattle.queues.specs.Flows.{Flows, Kept, Starts, by_block, more, queue_at}
use Rattle.queues.specs.Stands.{items}
use Rattle.queues.specs.Strict.{Chip, strict}
use Rattle.queues.proofs.Strictly.{matches_kept}
use Rattle.queues.proofs.Turns.{flows_ext}
use Rattle.run.specs.declared.inner.Inner.{Inner}
use Rattle.run.specs.declared.inner.ModuleState.{ModuleState}
use Rattle.run.specs.Told.{Told, unused}

strict_reset : {Item State : Type 0} (chip : Chip Item State) (v : ℕ) → (strict chip 0).item v ≡ chip.rules.reset v
unfolding strict
strict_reset chip v = refl

module _ {Item State : Type 0} (ok : Bool) (before : List Item) (chip : Chip Item State) (c : Count) (i : Inner) (r : Rules Item State) (h : ℕ → State) (t : List Item)
    (td : Told ok before chip c i r h t) (unprimed : i.primed ≡ false) where
  none_yet : (v : ℕ) → c.firings v ≡ 0
  none_yet = td.still (sym td.primed ∙ unprimed)

  put_none : (e : ℕ) → put chip.net c e ≡ 0
  put_none e = ap (λ b. cond b (puts chip.net c.firings e) 0) (sym td.primed ∙ unprimed)

  inside : (e : ℕ) → e < i.channels.count → e < chip.net.channels
  inside e lt = subst (λ (n : ℕ). e < n) (sym td.stands.matches.channels) lt

  -- the array of blocks says of a channel's source what the netlist says
  block_at : (e : ℕ) → e < i.channels.count → by_block i.channels i.blocks e ≡ chip.net.block (chip.net.source e)
  block_at e lt =
      let s = (queue_at i.channels e).source in
      let is : chip.net.source e ≡ s = td.stands.matches.source e in
      let low : 1 ≤ s = omega (arith, is, td.stands.lawful.source_low e (inside e lt)) in
      let high : s - 1 < i.modules = omega (arith, is, td.modules, low, td.stands.lawful.source_high e (inside e lt)) in
      let back : s - 1 + 1 ≡ chip.net.source e = omega (arith, is, low) in
      td.blocks (s - 1) high ∙ ap chip.net.block back

  pub starts : i.modules ≤ 64 → Starts ok i.channels i.blocks r.reset (λ e. c.firings (chip.net.sink e)) (put chip.net c) (items chip)
  starts few = record {
    low = λ e lt. omega (arith, td.stands.matches.source e, td.stands.lawful.source_low e (inside e lt));
    high = λ e lt. omega (arith, td.stands.matches.source e, td.modules, td.stands.lawful.source_high e (inside e lt));
    room = λ e lt. omega (arith, put_none e);
    next = λ y e lt on.
        let blk : chip.net.block (chip.net.source e) ≡ true = sym (block_at e lt) ∙ on in
        ap (λ q. q.reset (queue_at i.channels e).source) td.stands.same_rules ∙ ap chip.rules.reset (sym (td.stands.matches.source e) ∙ sym (td.stands.lawful.from_block e (inside e lt) blk))
        ∙ sym (strict_reset chip (origin chip.net e)) ∙ ap (λ k. (strict chip k).item (origin chip.net e)) (sym (put_none e));
  }

  pub told_prime : (len : ℕ) (i₂ : Inner) (t₂ : List Item) → Kept i₂.channels i.channels
      → Flows ok before i₂.channels t₂ (λ e. c.firings (chip.net.sink e)) (more (put chip.net c) (by_block i.channels i.blocks)) (items chip)
      → i₂.modules ≡ i.modules → i₂.blocks ≡ i.blocks → i₂.states ≡ i.states → i₂.primed ≡ true → i₂.steps ≡ i.steps
      → Told ok before chip (done chip.net c (prime len)) i₂ r h t₂
  told_prime len i₂ t₂ kept out em eb ef ep es = record {
    stands = record {
      lawful = td.stands.lawful;
      matches = matches_kept chip.net i.channels i₂.channels td.stands.matches kept;
      same_rules = td.stands.same_rules;
      flows = flows_ext i₂.channels t₂ ok before (λ e. c.firings (chip.net.sink e)) (λ e. c.firings (chip.net.sink e)) (more (put chip.net c) (by_block i.channels i.blocks)) (puts chip.net c.firings) (items chip)
          (λ e lt. refl)
          (λ e lt. ap₂ (λ a b. a + cond b 1 0) (put_none e ∙ sym (none_yet (chip.net.source e))) (block_at e (subst (λ (n : ℕ). e < n) kept.count lt)))
          out;
      states = td.stands.states;
      rest = td.stands.rest;
    };
    modules = em ∙ td.modules;
    entries = kept.entries ∙ td.entries;
    blocks = λ k lt. ap (λ xs. get_or xs k false) eb ∙ td.blocks k (omega (arith, em));
    firings = λ k lt. ap (λ (xs : List ModuleState). (get_or xs k unused).firings) ef ∙ td.firings k (omega (arith, em));
    marks = λ k lt. ap (λ (xs : List ModuleState). (get_or xs k unused).marked) ef ∙ td.marks k (omega (arith, em));
    primed = ep;
    steps = es ∙ td.steps;
    few = td.few;
    still = λ q. absurd (true≢false q);
  }
