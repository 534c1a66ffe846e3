-- The firing of a relay station. Assumes nothing.
use Rattle.std.proofs.Common.{◌≡◌, ℕ, ◌+◌, ◌<◌, Bool, true, cond, eqb, List, sym, ap, ◌∙◌, subst, inl, inr, arith}
use Rattle.std.proofs.lemmas.Bool.{eq-eqb, ne_eqb, cases_eq}
use Rattle.queues.specs.declared.channels.Channels.{Channels}
use Rattle.queues.specs.Flows.{Kept, Flows, Opens, Sole, bump, more, from, into, queue_at}
use Rattle.queues.proofs.Turns.{flows_ext}

module _ (w₀ : Channels) (v d : ℕ) (sole : Sole w₀ v d) where
  -- to touch the one channel is to touch each that leads to v
  bump_sole : (took : ℕ → ℕ) (e : ℕ) → e < w₀.count → bump took d e ≡ more took (into w₀ v) e
  bump_sole took e lt = ap (λ b. took e + cond b 1 0) same
    where
      same : eqb e d ≡ into w₀ v e
      same = elim (cases_eq (queue_at w₀ e).sink v) [
        | inl q ↦ eq-eqb e d (sole.alone e lt q) ∙ sym (eq-eqb (queue_at w₀ e).sink v q)
        | inr ne ↦ ne_eqb e d (λ q. ne (ap (λ i. (queue_at w₀ i).sink) q ∙ sole.here)) ∙ sym (ne_eqb (queue_at w₀ e).sink v ne)
      ]

  pub relay_flows : {Item : Type 0} (t₀ : List Item) (w₁ w₂ : Channels) (t₂ : List Item) (item : Item) (ok : Bool) (before : List Item) (took put : ℕ → ℕ) (stream : ℕ → ℕ → Item)
      → Kept w₁ w₀ → Kept w₂ w₀ → (ok ≡ true → item ≡ stream d (took d)) → Flows ok before w₁ t₀ (bump took d) put stream → Opens ok w₀ v (stream d (took d)) took put stream
      → (Flows ok before w₁ t₀ (bump took d) put stream → Opens ok w₁ v item (bump took d) put stream → Flows ok before w₂ t₂ (bump took d) (more put (from w₁ v)) stream)
      → Flows ok before w₂ t₂ (more took (into w₀ v)) (more put (from w₀ v)) stream
  relay_flows t₀ w₁ w₂ t₂ item ok before took put stream kept kept₂ is fl op flow =
      flows_ext w₂ t₂ ok before (bump took d) (more took (into w₀ v)) (more put (from w₁ v)) (more put (from w₀ v)) stream
      (λ e lt. bump_sole took e (subst (λ (n : ℕ). e < n) kept₂.count lt))
      (λ e lt. ap (λ s. put e + cond (eqb s v) 1 0) (kept.each e).source)
      (flow fl (record {
        room = λ e lt q. omega (arith, op.room e (subst (λ (n : ℕ). e < n) kept.count lt) (sym (kept.each e).source ∙ q), (kept.each e).size);
        next = λ t e lt q. is t ∙ op.next t e (subst (λ (n : ℕ). e < n) kept.count lt) (sym (kept.each e).source ∙ q);
      }))
