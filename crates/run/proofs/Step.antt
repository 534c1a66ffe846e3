-- A whole step, against the counts. Assumes nothing.
use Rattle.std.proofs.Common.{◌≡◌, ℕ, ◌+◌, ◌^◌, ◌<◌, ◌≤◌, Bool, true, false, cond, not, ◌&&◌, leb, List, get_or, sym, refl, ap, ◌∙◌, subst, arith}
use Rattle.std.proofs.lemmas.Bool.Decides.{same_from_decides}
use Rattle.std.proofs.lemmas.Bool.{and_parts, and_from, leb-true, le-leb, not-true, not_from_false, true≢false}
use Rattle.cores.specs.Rules.{Rules}
use Rattle.counts.specs.Origins.{puts}
use Rattle.counts.specs.Steps.{Ready, fill, fires, is_ready}
use Rattle.counts.proofs.Readiness.{tests_ready}
use Rattle.calls.specs.Calls.{Count, done, put, step}
use Rattle.queues.specs.declared.channels.Channels.{Channels}
use Rattle.queues.specs.Flows.{ReadyAt, more, queue_at}
use Rattle.queues.specs.Stands.{Stands, items}
use Rattle.queues.specs.Strict.{Chip}
use Rattle.queues.proofs.Turns.{flows_ext}
use Rattle.run.specs.declared.inner.Inner.{Inner}
use Rattle.run.specs.Told.{Told, Counts, Framed, Planned, Judged, state_at}

-- with another count of what was put, where they agree
pub stands_put : {Item State : Type 0} (ok : Bool) (before : List Item) (chip : Chip Item State) (f p p' : ℕ → ℕ) (w : Channels) (r : Rules Item State) (h : ℕ → State) (t : List Item) → ((e : ℕ) → p e ≡ p' e)
    → Stands ok before chip f p w r h t → Stands ok before chip f p' w r h t
stands_put ok before chip f p p' w r h t same st = record {
  lawful = st.lawful;
  matches = st.matches;
  same_rules = st.same_rules;
  flows = flows_ext w t ok before (λ e. f (chip.net.sink e)) (λ e. f (chip.net.sink e)) p p' (items chip) (λ e lt. refl) (λ e lt. same e) st.flows;
  states = st.states;
  rest = st.rest;
}

module _ {Item State : Type 0} (ok : Bool) (before : List Item) (chip : Chip Item State) (c : Count) (i : Inner) (r : Rules Item State) (h : ℕ → State) (t : List Item)
    (td : Told ok before chip c i r h t) (primed : i.primed ≡ true) where
  is_primed : c.primed ≡ true
  is_primed = sym td.primed ∙ primed

  pub put_primed : (f : ℕ → ℕ) (e : ℕ) → cond c.primed (puts chip.net f e) 0 ≡ puts chip.net f e
  put_primed f e = ap (λ b. cond b (puts chip.net f e) 0) is_primed

  -- the records' fills are the counted ones
  fills_are : (e : ℕ) → e < chip.net.channels → (queue_at i.channels e).fill ≡ fill chip.net c.firings e
  fills_are e lt =
      let hd = td.stands.flows.each e (subst (λ (n : ℕ). e < n) td.stands.matches.channels lt) in
      omega (arith, hd.count, put_primed c.firings e)

  abbrev ReadyNow : ℕ → Type 0
  ReadyNow v = Ready chip.net.source chip.net.sink chip.net.size (fill chip.net c.firings) v chip.net.channels

  ready_by_counts : (v : ℕ) → ReadyAt i.channels v i.channels.count → ReadyNow v
  ready_by_counts v rd =
      let wd = td.stands.matches in
      record {
        feeds = λ e lt q. subst (λ (n : ℕ). 1 ≤ n) (fills_are e lt) (rd.feeds e (subst (λ (n : ℕ). e < n) wd.channels lt) (sym (wd.sink e) ∙ q));
        room = λ e lt q. omega (arith, fills_are e lt, wd.size e, rd.room e (subst (λ (n : ℕ). e < n) wd.channels lt) (sym (wd.source e) ∙ q));
      }

  ready_by_records : (v : ℕ) → ReadyNow v → ReadyAt i.channels v i.channels.count
  ready_by_records v rd =
      let wd = td.stands.matches in
      let back : (e : ℕ) → e < i.channels.count → e < chip.net.channels = λ e lt. subst (λ (n : ℕ). e < n) (sym wd.channels) lt in
      record {
        feeds = λ e lt q. subst (λ (n : ℕ). 1 ≤ n) (sym (fills_are e (back e lt))) (rd.feeds e (back e lt) (wd.sink e ∙ q));
        room = λ e lt q. omega (arith, fills_are e (back e lt), wd.size e, rd.room e (back e lt) (wd.source e ∙ q));
      }

  -- the parts of `fires`
  fires_parts : (v : ℕ) → fires chip.net c.marks c.firings v ≡ true → (1 ≤ v) × (v ≤ chip.net.modules) × (c.marks v ≡ false) × ReadyNow v
  fires_parts v q =
      let rd = is_ready chip.net c.firings v in
      let a = and_parts (leb 1 v && leb v chip.net.modules) (not (c.marks v) && rd) q in
      let b = and_parts (leb 1 v) (leb v chip.net.modules) a.0 in
      let e = and_parts (not (c.marks v)) rd a.1 in
      (leb-true 1 v b.0, leb-true v chip.net.modules b.1, not-true (c.marks v) e.0, (tests_ready chip.net.source chip.net.sink chip.net.size (fill chip.net c.firings) v chip.net.channels).0 e.1)

  parts_fire : (v : ℕ) → 1 ≤ v → v ≤ chip.net.modules → c.marks v ≡ false → ReadyNow v → fires chip.net c.marks c.firings v ≡ true
  parts_fire v low high free rdy =
      let rd = is_ready chip.net c.firings v in
      and_from (leb 1 v && leb v chip.net.modules) (not (c.marks v) && rd)
      (and_from (leb 1 v) (leb v chip.net.modules) (le-leb 1 v low) (le-leb v chip.net.modules high))
      (and_from (not (c.marks v)) rd (not_from_false (c.marks v) free) ((tests_ready chip.net.source chip.net.sink chip.net.size (fill chip.net c.firings) v chip.net.channels).1 rdy))

  pub planned : (firing : List Bool) → Judged i firing i.modules → i.steps + 1 < 2 ^ 32
      → Planned ok before chip c.firings (fires chip.net c.marks c.firings) i r h t firing
  planned firing jd few = record {
    stands = stands_put ok before chip c.firings (put chip.net c) (puts chip.net c.firings) i.channels r h t (put_primed c.firings) td.stands;
    modules = td.modules;
    blocks = td.blocks;
    counts = td.firings;
    going = λ k lt. same_from_decides (get_or firing k false) (fires chip.net c.marks c.firings (k + 1)) (jd k lt) (
      (λ q. let p = fires_parts (k + 1) q in (td.marks k lt ∙ p.2, ready_by_records (k + 1) p.3)),
      (λ p. parts_fire (k + 1) (omega arith) (omega (arith, td.modules)) (sym (td.marks k lt) ∙ p.0) (ready_by_counts (k + 1) p.1)),
    );
    small = λ v. omega (arith, td.few v, td.steps);
    only = λ v q. let p = fires_parts v q in (p.0, p.1);
    enabled = λ v q.
        let p = fires_parts v q in
        record {
          low = p.0;
          high = p.1;
          feeds = λ e lt s. omega (arith, p.3.feeds e lt s);
          room = λ e lt s. omega (arith, p.3.room e lt s);
        };
  }

  at_most : (n m : ℕ) (b : Bool) → n ≤ m → n + cond b 1 0 ≤ m + 1
  at_most n m true le = omega arith
  at_most n m false le = omega arith

  pub told_step : (len : ℕ) (i₁ i₂ : Inner) (r₁ : Rules Item State) (h₁ : ℕ → State) (t₁ : List Item) → Framed i₁ i
      → Stands ok before chip (more c.firings (fires chip.net c.marks c.firings)) (puts chip.net (more c.firings (fires chip.net c.marks c.firings))) i₁.channels r₁ h₁ t₁
      × Counts i₁.modules i₁ (more c.firings (fires chip.net c.marks c.firings))
      → i₂.modules ≡ i₁.modules → i₂.blocks ≡ i₁.blocks → i₂.channels ≡ i₁.channels → ((k : ℕ) → (state_at i₂ k).firings ≡ (state_at i₁ k).firings) → i₂.primed ≡ i₁.primed
      → i₂.steps ≡ i₁.steps + 1 → ((k : ℕ) → k < i₂.modules → (state_at i₂ k).marked ≡ false)
      → Told ok before chip (done chip.net c (step len)) i₂ r₁ h₁ t₁
  told_step len i₁ i₂ r₁ h₁ t₁ fr out em eb ew ef ep es clear =
      let f' = more c.firings (fires chip.net c.marks c.firings) in
      record {
        stands = stands_put ok before chip f' (puts chip.net f') (put chip.net (done chip.net c (step len))) i₂.channels r₁ h₁ t₁ (λ e. sym (put_primed f' e))
            (subst (λ (w : Channels). Stands ok before chip f' (puts chip.net f') w r₁ h₁ t₁) (sym ew) out.0);
        modules = em ∙ fr.modules ∙ td.modules;
        entries = ap (λ (w : Channels). w.entries) ew ∙ fr.entries ∙ td.entries;
        blocks = λ k lt. ap (λ xs. get_or xs k false) (eb ∙ fr.blocks) ∙ td.blocks k (omega (arith, em, fr.modules));
        firings = λ k lt. ef k ∙ out.1 k (omega (arith, em));
        marks = clear;
        primed = ep ∙ fr.primed ∙ td.primed;
        steps = es ∙ ap (λ n. n + 1) (fr.steps ∙ td.steps);
        few = λ v. at_most (c.firings v) c.steps (fires chip.net c.marks c.firings v) (td.few v);
        still = λ q. absurd (true≢false (sym is_primed ∙ q));
      }
