-- The firing of one module, against the strict machine. Assumes nothing.
use Rattle.std.proofs.Common.{◌≡◌, ℕ, zero, suc, ◌+◌, ◌<◌, ◌≤◌, Bool, true, false, cond, eqb, ◌≢◌, List, sym, refl, ap, ◌∙◌, subst, ap₂, inl, inr, add-zero, add-one, arith}
use mathlib.Core.Path.{fun_ext}
use Rattle.std.proofs.lemmas.Bool.{ne_eqb, cases_eq, both_ways}
use Rattle.cores.specs.Rules.{Rules}
use Rattle.queues.specs.declared.channels.Channels.{Channels}
use Rattle.counts.specs.Nets.{Net}
use Rattle.counts.specs.Origins.{Enabled, puts, origin}
use Rattle.queues.specs.Strict.{Chip, intake, fed, strict}
use Rattle.queues.specs.Flows.{Kept, Flows, Opens, Feeds, Sole, bump, more, into, from, queue_at}
use Rattle.queues.specs.Stands.{Matches, Stands, items}
use Rattle.queues.proofs.Replacing.{bump_same, bump_other}
use Rattle.queues.proofs.Turns.{flows_ext}

pub matches_kept : (net : Net) (w w' : Channels) → Matches net w → Kept w' w → Matches net w'
matches_kept net w w' matches kept = record {
  channels = matches.channels ∙ sym kept.count;
  source = λ e. matches.source e ∙ sym (kept.each e).source;
  sink = λ e. matches.sink e ∙ sym (kept.each e).sink;
  size = λ e. matches.size e ∙ sym (kept.each e).size;
  base_is = λ e lt. matches.base_is e lt ∙ sym (kept.each e).base;
}

-- only what leads to v counts
pub intake_ext : {Item State : Type 0} (absorb : ℕ → State → Item → State) (sink : ℕ → ℕ) (b b' : ℕ → Item) (v : ℕ) (s : State) (n : ℕ)
    → ((e : ℕ) → e < n → sink e ≡ v → b e ≡ b' e) → intake absorb sink b v s n ≡ intake absorb sink b' v s n
unfolding intake
intake_ext absorb sink b b' v s zero same = refl
intake_ext absorb sink b b' v s (suc n) same =
    let ih = intake_ext absorb sink b b' v s n (λ e lt q. same e (omega arith) q) in
    elim (cases_eq (sink n) v) [
      | inl q ↦ ap₂ (λ i x. cond (eqb (sink n) v) (absorb v i x) i) ih (same n (omega arith) q)
      | inr ne ↦ ap (λ t. cond t (absorb v (intake absorb sink b v s n) (b n)) (intake absorb sink b v s n)) (ne_eqb (sink n) v ne) ∙ ih
          ∙ sym (ap (λ t. cond t (absorb v (intake absorb sink b' v s n) (b' n)) (intake absorb sink b' v s n)) (ne_eqb (sink n) v ne))
    ]

module _ {Item State : Type 0} (chip : Chip Item State) where
  pub strict_item : (n v : ℕ) → (strict chip (n + 1)).item v ≡ chip.rules.item v (fed chip (strict chip n) v)
  unfolding strict
  strict_item n v = ap (λ k. (strict chip k).item v) (add-one n)

  pub strict_state : (n v : ℕ) → (strict chip (n + 1)).state v ≡ chip.rules.next v (fed chip (strict chip n) v)
  unfolding strict
  strict_state n v = ap (λ k. (strict chip k).state v) (add-one n)

module _ (net : Net) (f : ℕ → ℕ) (w : Channels) (matches : Matches net w) (v : ℕ) where
  pub took_fired : (e : ℕ) → more (λ e. f (net.sink e)) (into w v) e ≡ bump f v (net.sink e)
  took_fired e = ap (λ s. f (net.sink e) + cond (eqb s v) 1 0) (sym (matches.sink e))

  pub put_fired : (e : ℕ) → more (puts net f) (from w v) e ≡ puts net (bump f v) e
  put_fired e = ap (λ s. puts net f e + cond (eqb s v) 1 0) (sym (matches.source e)) ∙ omega arith

  pub flows_fired : {Item : Type 0} (ok : Bool) (before : List Item) (w' : Channels) (t : List Item) (stream : ℕ → ℕ → Item) → Flows ok before w' t (more (λ e. f (net.sink e)) (into w v)) (more (puts net f) (from w v)) stream
      → Flows ok before w' t (λ e. bump f v (net.sink e)) (puts net (bump f v)) stream
  flows_fired ok before w' t stream fl = flows_ext w' t ok before (more (λ e. f (net.sink e)) (into w v)) (λ e. bump f v (net.sink e)) (more (puts net f) (from w v)) (puts net (bump f v)) stream
      (λ e lt. took_fired e) (λ e lt. put_fired e) fl

  pub feeds_enabled : Enabled net f v → Feeds w v (λ e. f (net.sink e)) (puts net f)
  feeds_enabled en = record { each = λ e lt q. en.feeds e (subst (λ (n : ℕ). e < n) (sym matches.channels) lt) (matches.sink e ∙ q) }

module _ {Item State : Type 0} (ok : Bool) (before : List Item) (chip : Chip Item State) (f : ℕ → ℕ) (w : Channels) (r : Rules Item State) (h : ℕ → State) (t : List Item)
    (st : Stands ok before chip f (puts chip.net f) w r h t) (v : ℕ) (en : Enabled chip.net f v) where
  -- what block v holds when it has absorbed its items
  pub gathered_is : ok ≡ true → chip.net.block v ≡ true
      → intake r.absorb (λ e. (queue_at w e).sink) (λ e. items chip e (f (chip.net.sink e))) v (h v) w.count ≡ fed chip (strict chip (f v)) v
  gathered_is y blk =
      let sinks : (λ e. (queue_at w e).sink) ≡ chip.net.sink = fun_ext (λ e. sym (st.matches.sink e)) in
      ap (λ q. intake q.absorb (λ e. (queue_at w e).sink) (λ e. items chip e (f (chip.net.sink e))) v (h v) w.count) st.same_rules
      ∙ ap (λ s. intake chip.rules.absorb s (λ e. items chip e (f (chip.net.sink e))) v (h v) w.count) sinks
      ∙ ap₂ (λ s n. intake chip.rules.absorb chip.net.sink (λ e. items chip e (f (chip.net.sink e))) v s n) (st.states y v en.low blk) (sym st.matches.channels)
      ∙ intake_ext chip.rules.absorb chip.net.sink (λ e. items chip e (f (chip.net.sink e))) (λ e. items chip e (f v)) v ((strict chip (f v)).state v) chip.net.channels
      (λ e lt q. ap (λ u. items chip e (f u)) q)

  -- a block's item is the next of each channel from it
  pub opens_block : chip.net.block v ≡ true → (w₁ : Channels) (item : Item) → Kept w₁ w → (ok ≡ true → item ≡ (strict chip (f v + 1)).item v)
      → Opens ok w₁ v item (more (λ e. f (chip.net.sink e)) (into w v)) (puts chip.net f) (items chip)
  opens_block blk w₁ item kept is =
      let matches₁ = matches_kept chip.net w w₁ st.matches kept in
      record {
        room = λ e lt q. omega (arith, en.room e (subst (λ (n : ℕ). e < n) (sym matches₁.channels) lt) (matches₁.source e ∙ q), matches₁.size e);
        next = λ y e lt q.
            let from_v : chip.net.source e ≡ v = matches₁.source e ∙ q in
            let inside : e < chip.net.channels = subst (λ (n : ℕ). e < n) (sym matches₁.channels) lt in
            let blk_e : chip.net.block (chip.net.source e) ≡ true = ap chip.net.block from_v ∙ blk in
            let org : origin chip.net e ≡ v = st.lawful.from_block e inside blk_e ∙ from_v in
            let cnt : puts chip.net f e ≡ f v + 1 = ap₂ (λ a b. a + cond b 1 0) (ap f from_v) blk_e in
            is y ∙ ap₂ (λ k u. (strict chip k).item u) (sym cnt) (sym org);
      }

  pub block_fires : chip.net.block v ≡ true → (w₁ w₂ : Channels) (r₂ : Rules Item State) (h₁ h₂ : ℕ → State) (item : Item) (t₂ : List Item)
      → Kept w₁ w → Kept w₂ w → r₂ ≡ r
      → (ok ≡ true → h₁ v ≡ intake r.absorb (λ e. (queue_at w e).sink) (λ e. items chip e (f (chip.net.sink e))) v (h v) w.count)
      → item ≡ r.item v (h₁ v) → h₂ v ≡ r.next v (h₁ v) → ((u : ℕ) → 1 ≤ u → u ≢ v → h₂ u ≡ h u)
      → (Opens ok w₁ v item (more (λ e. f (chip.net.sink e)) (into w v)) (puts chip.net f) (items chip) → Flows ok before w₂ t₂ (more (λ e. f (chip.net.sink e)) (into w v)) (more (puts chip.net f) (from w₁ v)) (items chip))
      → Stands ok before chip (bump f v) (puts chip.net (bump f v)) w₂ r₂ h₂ t₂
  block_fires blk w₁ w₂ r₂ h₁ h₂ item t₂ kept₁ kept₂ rules took given own others flow =
      let fed_is : ok ≡ true → h₁ v ≡ fed chip (strict chip (f v)) v = λ y. took y ∙ gathered_is y blk in
      let item_is : ok ≡ true → item ≡ (strict chip (f v + 1)).item v = λ y. given ∙ ap₂ (λ q s. q.item v s) st.same_rules (fed_is y) ∙ sym (strict_item chip (f v) v) in
      let state_is : ok ≡ true → h₂ v ≡ (strict chip (f v + 1)).state v = λ y. own ∙ ap₂ (λ q s. q.next v s) st.same_rules (fed_is y) ∙ sym (strict_state chip (f v) v) in
      let out = flow (opens_block blk w₁ item kept₁ item_is) in
      let out' = flows_ext w₂ t₂ ok before (more (λ e. f (chip.net.sink e)) (into w v)) (more (λ e. f (chip.net.sink e)) (into w v)) (more (puts chip.net f) (from w₁ v)) (more (puts chip.net f) (from w v)) (items chip)
      (λ e lt. refl) (λ e lt. ap (λ s. puts chip.net f e + cond (eqb s v) 1 0) (kept₁.each e).source) out in
      record {
        lawful = st.lawful;
        matches = matches_kept chip.net w w₂ st.matches kept₂;
        same_rules = rules ∙ st.same_rules;
        flows = flows_fired chip.net f w st.matches v ok before w₂ t₂ (items chip) out';
        states = λ y u low b. elim (cases_eq u v) [
          | inl q ↦ subst (λ (i : ℕ). h₂ i ≡ (strict chip (bump f v i)).state i) (sym q) (state_is y ∙ ap (λ k. (strict chip k).state v) (sym (bump_same f v)))
          | inr ne ↦ others u low ne ∙ st.states y u low b ∙ ap (λ k. (strict chip k).state u) (sym (bump_other f v u ne))
        ];
        rest = λ u low b. others u low (λ q. both_ways (chip.net.block u) b (ap chip.net.block q ∙ blk)) ∙ st.rest u low b;
      }

  pub relay_fires : chip.net.block v ≡ false → (w₂ : Channels) (t₂ : List Item) → Kept w₂ w
      → ((d : ℕ) → Sole w v d → f (chip.net.sink d) < puts chip.net f d → Opens ok w v (items chip d (f (chip.net.sink d))) (λ e. f (chip.net.sink e)) (puts chip.net f) (items chip)
      → Flows ok before w₂ t₂ (more (λ e. f (chip.net.sink e)) (into w v)) (more (puts chip.net f) (from w v)) (items chip))
      → Stands ok before chip (bump f v) (puts chip.net (bump f v)) w₂ r h t₂
  relay_fires rel w₂ t₂ kept flow =
      let input = st.lawful.relay_input v en.low en.high rel in
      let d = input.0 in
      let sole : Sole w v d = record {
        within = subst (λ (n : ℕ). d < n) st.matches.channels input.1;
        here = sym (st.matches.sink d) ∙ input.2;
        alone = λ e lt q. input.3 e (subst (λ (n : ℕ). e < n) (sym st.matches.channels) lt) (st.matches.sink e ∙ q);
      } in
      let opens : Opens ok w v (items chip d (f (chip.net.sink d))) (λ e. f (chip.net.sink e)) (puts chip.net f) (items chip) = record {
        room = λ e lt q. omega (arith, en.room e (subst (λ (n : ℕ). e < n) (sym st.matches.channels) lt) (st.matches.source e ∙ q), st.matches.size e);
        next = λ y e lt q.
            let from_v : chip.net.source e ≡ v = st.matches.source e ∙ q in
            let inside : e < chip.net.channels = subst (λ (n : ℕ). e < n) (sym st.matches.channels) lt in
            let rel_e : chip.net.block (chip.net.source e) ≡ false = ap chip.net.block from_v ∙ rel in
            let org : origin chip.net e ≡ origin chip.net d = st.lawful.from_relay d e input.1 inside rel_e (input.2 ∙ sym from_v) in
            let cnt : puts chip.net f e ≡ f (chip.net.sink d) = ap₂ (λ a b. a + cond b 1 0) (ap f from_v) rel_e ∙ add-zero (f v) ∙ ap f (sym input.2) in
            ap₂ (λ k u. (strict chip k).item u) (sym cnt) (sym org);
      } in
      record {
        lawful = st.lawful;
        matches = matches_kept chip.net w w₂ st.matches kept;
        same_rules = st.same_rules;
        flows = flows_fired chip.net f w st.matches v ok before w₂ t₂ (items chip) (flow d sole (en.feeds d input.1 input.2) opens);
        states = λ y u low b. elim (cases_eq u v) [
          | inl q ↦ absurd (both_ways (chip.net.block v) rel (ap chip.net.block (sym q) ∙ b))
          | inr ne ↦ st.states y u low b ∙ ap (λ k. (strict chip k).state u) (sym (bump_other f v u ne))
        ];
        rest = st.rest;
      }
