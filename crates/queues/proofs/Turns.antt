-- A loop over the channels that touches those that pass a test: one turn more, and the end. Assumes nothing.
use Rattle.std.proofs.Common.{◌≡◌, ℕ, ◌+◌, ◌<◌, ◌≤◌, Bool, true, false, cond, ◌&&◌, List, sym, refl, ap, ◌∙◌, subst, ap₂, inl, inr, add-zero, arith}
use Rattle.std.proofs.lemmas.Bool.{cases_order, eq-eqb, ne_eqb, lt-ltb, le-ltb}
use Rattle.queues.specs.declared.channels.Channels.{Channels}
use Rattle.queues.specs.Holds.{Holds}
use Rattle.queues.specs.Flows.{Flows, bump, more, first, queue_at}

pub flows_ext : {Item : Type 0} (w : Channels) (table : List Item) (ok : Bool) (before : List Item) (took took' put put' : ℕ → ℕ) (stream : ℕ → ℕ → Item)
    → ((e : ℕ) → e < w.count → took e ≡ took' e) → ((e : ℕ) → e < w.count → put e ≡ put' e) → Flows ok before w table took put stream → Flows ok before w table took' put' stream
flows_ext w table ok before took took' put put' stream p q fl = record {
  each = λ e lt. subst (λ (n : ℕ). Holds ok before (queue_at w e) table n (put' e) (stream e)) (p e lt) (subst (λ (n : ℕ). Holds ok before (queue_at w e) table (took e) n (stream e)) (q e lt) (fl.each e lt));
  beyond = fl.beyond;
}

module _ (f : ℕ → ℕ) (t : ℕ → Bool) (n : ℕ) where
  first_before : (e : ℕ) → e < n → first n t e ≡ t e
  first_before e lt = ap (λ b. b && t e) (lt-ltb e n lt)

  first_behind : (e : ℕ) → n ≤ e → first n t e ≡ false
  first_behind e le = ap (λ b. b && t e) (le-ltb e n le)

  -- nothing has been touched before the first turn
  pub more_none : (e : ℕ) → f e ≡ more f (first 0 t) e
  more_none e = sym (ap (λ b. f e + cond (b && t e) 1 0) (le-ltb e 0 (omega arith)) ∙ add-zero (f e))

  -- all have been touched after the last
  pub more_all : (e : ℕ) → e < n → more f (first n t) e ≡ more f t e
  more_all e lt = ap (λ b. f e + cond b 1 0) (first_before e lt)

  pub more_here : more f (first n t) n ≡ f n
  more_here = ap (λ b. f n + cond b 1 0) (first_behind n (omega arith)) ∙ add-zero (f n)

module _ (f : ℕ → ℕ) (t : ℕ → Bool) (n : ℕ) where
  pub more_on : t n ≡ true → (e : ℕ) → bump (more f (first n t)) n e ≡ more f (first (n + 1) t) e
  more_on is e = elim (cases_order e n) [
    | inl q ↦ subst (λ (i : ℕ). bump (more f (first n t)) n i ≡ more f (first (n + 1) t) i) (sym q)
        (ap₂ (λ a b. a + cond b 1 0) (more_here f t n) (eq-eqb n n refl) ∙ sym (more_all f t (n + 1) n (omega arith) ∙ ap (λ b. f n + cond b 1 0) is))
    | inr o ↦ elim o [
      | inl before ↦ ap₂ (λ a b. a + cond b 1 0) (more_all f t n e before) (ne_eqb e n (λ q. omega arith)) ∙ add-zero (more f t e) ∙ sym (more_all f t (n + 1) e (omega arith))
      | inr behind ↦ ap₂ (λ a b. a + cond b 1 0) (ap (λ b. f e + cond b 1 0) (first_behind f t n e (omega arith))) (ne_eqb e n (λ q. omega arith)) ∙ add-zero (f e + 0) ∙ sym (ap (λ b. f e + cond b 1 0) (first_behind f t (n + 1) e (omega arith)))
    ]
  ]

  pub more_off : t n ≡ false → (e : ℕ) → more f (first n t) e ≡ more f (first (n + 1) t) e
  more_off is e = elim (cases_order e n) [
    | inl q ↦ subst (λ (i : ℕ). more f (first n t) i ≡ more f (first (n + 1) t) i) (sym q)
        (more_here f t n ∙ sym (more_all f t (n + 1) n (omega arith) ∙ ap (λ b. f n + cond b 1 0) is ∙ add-zero (f n)))
    | inr o ↦ elim o [
      | inl before ↦ more_all f t n e before ∙ sym (more_all f t (n + 1) e (omega arith))
      | inr behind ↦ ap (λ b. f e + cond b 1 0) (first_behind f t n e (omega arith)) ∙ sym (ap (λ b. f e + cond b 1 0) (first_behind f t (n + 1) e (omega arith)))
    ]
  ]
