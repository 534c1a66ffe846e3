-- The loop that puts one item into each channel from a module. Assumes nothing.
use Rattle.std.proofs.Common.{◌≡◌, ℕ, ◌+◌, ◌<◌, ◌≤◌, Bool, true, List, sym, refl, ap, ◌∙◌, arith}
use Rattle.std.proofs.lemmas.Bool.{eq-eqb, ne_eqb}
use Rattle.queues.specs.declared.channels.Channels.{Channels}
use Rattle.queues.specs.Flows.{Kept, Flows, Opens, bump, more, first, from, queue_at}
use Rattle.queues.proofs.Replacing.{kept_refl, kept_trans}
use Rattle.queues.proofs.Turns.{flows_ext, more_none, more_all, more_here, more_on, more_off}

-- after the turns at the first n channels
pub record Scattered {Item : Type 0} (w₀ : Channels) (t₀ : List Item) (v : ℕ) (item : Item) (n : ℕ) (w : Channels) (t : List Item) : Type 0 where
  pub kept : Kept w w₀
  pub flow : (ok : Bool) (before : List Item) (took put : ℕ → ℕ) (stream : ℕ → ℕ → Item) → Flows ok before w₀ t₀ took put stream → Opens ok w₀ v item took put stream → Flows ok before w t took (more put (first n (from w₀ v))) stream

module _ {Item : Type 0} (w₀ : Channels) (t₀ : List Item) (v : ℕ) (item : Item) where
  pub scattered_none : Scattered w₀ t₀ v item 0 w₀ t₀
  scattered_none = record {
    kept = kept_refl w₀;
    flow = λ ok before took put stream fl op. flows_ext w₀ t₀ ok before took took put (more put (first 0 (from w₀ v))) stream (λ e lt. refl) (λ e lt. more_none put (from w₀ v) 0 e) fl;
  }

  pub scattered_off : (n : ℕ) (w : Channels) (t : List Item) → Scattered w₀ t₀ v item n w t → ((queue_at w n).source ≡ v → ⊥) → Scattered w₀ t₀ v item (n + 1) w t
  scattered_off n w t s ne = record {
    kept = s.kept;
    flow = λ ok before took put stream fl op. flows_ext w t ok before took took (more put (first n (from w₀ v))) (more put (first (n + 1) (from w₀ v))) stream (λ e lt. refl)
        (λ e lt. more_off put (from w₀ v) n (ne_eqb (queue_at w₀ n).source v (λ q. ne ((s.kept.each n).source ∙ q))) e) (s.flow ok before took put stream fl op);
  }

  pub scattered_on : (n : ℕ) (w : Channels) (t : List Item) (w' : Channels) (t' : List Item) → Scattered w₀ t₀ v item n w t → n < w₀.count → (queue_at w n).source ≡ v
      → Kept w' w
      → ((ok : Bool) (before : List Item) (took put : ℕ → ℕ) (stream : ℕ → ℕ → Item) → Flows ok before w t took put stream → put n ≤ took n + (queue_at w n).size → (ok ≡ true → item ≡ stream n (put n)) → Flows ok before w' t' took (bump put n) stream)
      → Scattered w₀ t₀ v item (n + 1) w' t'
  scattered_on n w t w' t' s lt is kept flow = record {
    kept = kept_trans w' w w₀ kept s.kept;
    flow = λ ok before took put stream fl op.
        let is₀ : (queue_at w₀ n).source ≡ v = sym (s.kept.each n).source ∙ is in
        let here = more_here put (from w₀ v) n in
        flows_ext w' t' ok before took took (bump (more put (first n (from w₀ v))) n) (more put (first (n + 1) (from w₀ v))) stream (λ e l. refl)
        (λ e l. more_on put (from w₀ v) n (eq-eqb (queue_at w₀ n).source v is₀) e)
        (flow ok before took (more put (first n (from w₀ v))) stream (s.flow ok before took put stream fl op)
        (omega (arith, here, op.room n lt is₀, (s.kept.each n).size))
        (λ t. op.next t n lt is₀ ∙ ap (stream n) (sym here)));
  }

  pub scattered_all : (n : ℕ) (w : Channels) (t : List Item) → Scattered w₀ t₀ v item n w t → w₀.count ≤ n
      → (ok : Bool) (before : List Item) (took put : ℕ → ℕ) (stream : ℕ → ℕ → Item) → Flows ok before w₀ t₀ took put stream → Opens ok w₀ v item took put stream → Flows ok before w t took (more put (from w₀ v)) stream
  scattered_all n w t s le ok before took put stream fl op =
      flows_ext w t ok before took took (more put (first n (from w₀ v))) (more put (from w₀ v)) stream (λ e l. refl) (λ e l. more_all put (from w₀ v) n e (omega (arith, s.kept.count))) (s.flow ok before took put stream fl op)
