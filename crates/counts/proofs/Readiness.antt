-- The test of readiness, channel by channel. Assumes nothing.
use Rattle.std.proofs.Common.{◌≡◌, ℕ, zero, suc, ◌<◌, ◌≤◌, Bool, true, not, ◌&&◌, ◌||◌, eqb, leb, sym, refl, ap, ◌∙◌, inl, inr, arith}
use mathlib.Core.Bool.{and-true, and_assoc}
use Rattle.std.proofs.lemmas.Bool.{and_from, and_parts, both_ways, cases_eq, cases_lt, eq-eqb, le-leb, leb-true, ne_eqb, not-true, or_cases, or_left, or_right}
use Rattle.counts.specs.Nets.{Net}
use Rattle.counts.specs.Steps.{fill, is_ready, ready}
use Rattle.counts.specs.Laws.{TestsReady}

module _ (source sink size fills : ℕ → ℕ) (v : ℕ) where
  -- what the channel at place e says of module v
  abbrev pub lets : ℕ → Bool
  lets e = (not (eqb (sink e) v) || leb 1 (fills e)) && (not (eqb (source e) v) || leb (fills e) (size e))

  lets_feed : (e : ℕ) → lets e ≡ true → sink e ≡ v → 1 ≤ fills e
  lets_feed e h s =
      elim (or_cases (not (eqb (sink e) v)) (leb 1 (fills e)) (and_parts _ _ h).0) [
        | inl other ↦ absurd (both_ways _ (not-true _ other) (eq-eqb _ _ s))
        | inr some ↦ leb-true _ _ some
      ]

  lets_room : (e : ℕ) → lets e ≡ true → source e ≡ v → fills e ≤ size e
  lets_room e h s =
      elim (or_cases (not (eqb (source e) v)) (leb (fills e) (size e)) (and_parts _ _ h).1) [
        | inl other ↦ absurd (both_ways _ (not-true _ other) (eq-eqb _ _ s))
        | inr some ↦ leb-true _ _ some
      ]

  lets_when : (e : ℕ) → (sink e ≡ v → 1 ≤ fills e) → (source e ≡ v → fills e ≤ size e) → lets e ≡ true
  lets_when e feed room =
      and_from (not (eqb (sink e) v) || leb 1 (fills e)) (not (eqb (source e) v) || leb (fills e) (size e))
      (elim (cases_eq (sink e) v) [
        | inl s ↦ or_right (not (eqb (sink e) v)) (leb 1 (fills e)) (le-leb _ _ (feed s))
        | inr ne ↦ or_left (not (eqb (sink e) v)) (leb 1 (fills e)) (ap not (ne_eqb _ _ ne))
      ])
      (elim (cases_eq (source e) v) [
        | inl s ↦ or_right (not (eqb (source e) v)) (leb (fills e) (size e)) (le-leb _ _ (room s))
        | inr ne ↦ or_left (not (eqb (source e) v)) (leb (fills e) (size e)) (ap not (ne_eqb _ _ ne))
      ])

  each_lets : (n : ℕ) → ready source sink size fills v n ≡ true → (e : ℕ) → e < n → lets e ≡ true
  unfolding ready
  each_lets zero h e l = absurd (omega arith)
  each_lets (suc n) h e l =
      elim (cases_lt e n) [
        | inl less ↦ each_lets n (and_parts _ _ h).0 e less
        | inr le ↦ (let last : e ≡ n = omega arith in rw last (and_parts _ _ h).1)
      ]

  ready_when : (n : ℕ) → ((e : ℕ) → e < n → lets e ≡ true) → ready source sink size fills v n ≡ true
  unfolding ready
  ready_when zero h = refl
  ready_when (suc n) h = and_from (ready source sink size fills v n) (lets n) (ready_when n (λ e l. h e (omega arith))) (h n (omega arith))

pub tests_ready : TestsReady
tests_ready source sink size fills v n = (
  (λ h. record {
    feeds = λ e l. lets_feed source sink size fills v e (each_lets source sink size fills v n h e l);
    room = λ e l. lets_room source sink size fills v e (each_lets source sink size fills v n h e l);
  }),
  (λ r. ready_when source sink size fills v n (λ e l. lets_when source sink size fills v e (r.feeds e l) (r.room e l))),
)

pub room : (net : Net) (x : ℕ → ℕ) (e : ℕ) → e < net.channels → is_ready net x (net.source e) ≡ true → fill net x e ≤ net.size e
room net x e l h = ((tests_ready net.source net.sink net.size (fill net x) (net.source e) net.channels).0 h).room e l refl

-- the first channel, and then the others
pub ready_front : (source sink size fills : ℕ → ℕ) (v n : ℕ) →
    ready source sink size fills v (suc n) ≡ (lets source sink size fills v 0 && ready (λ e. source (suc e)) (λ e. sink (suc e)) (λ e. size (suc e)) (λ e. fills (suc e)) v n)
unfolding ready
ready_front source sink size fills v zero = sym (and-true (lets source sink size fills v 0))
ready_front source sink size fills v (suc n) =
    ap (λ b. b && lets source sink size fills v (suc n)) (ready_front source sink size fills v n)
    ∙ and_assoc (lets source sink size fills v 0) (ready (λ e. source (suc e)) (λ e. sink (suc e)) (λ e. size (suc e)) (λ e. fills (suc e)) v n) (lets source sink size fills v (suc n))
