-- The loop that puts the reset items. Assumes nothing.
use Rattle.std.proofs.Common.{◌≡◌, ℕ, ◌+◌, ◌-◌, ◌<◌, ◌≤◌, Bool, true, false, List, get_or, sym, refl, ap, ◌∙◌, arith}
use Rattle.queues.specs.declared.channels.Channels.{Channels}
use Rattle.queues.specs.Flows.{Kept, Flows, Starts, bump, more, first, by_block, queue_at}
use Rattle.queues.proofs.Replacing.{kept_refl, kept_trans}
use Rattle.queues.proofs.Turns.{flows_ext, more_none, more_all, more_here, more_on, more_off}

-- after the turns at the first n channels
pub record Started {Item : Type 0} (w₀ : Channels) (t₀ : List Item) (blocks : List Bool) (reset : ℕ → Item) (n : ℕ) (w : Channels) (t : List Item) : Type 0 where
  pub kept : Kept w w₀
  pub flow : (ok : Bool) (before : List Item) (took put : ℕ → ℕ) (stream : ℕ → ℕ → Item) → Flows ok before w₀ t₀ took put stream → Starts ok w₀ blocks reset took put stream → Flows ok before w t took (more put (first n (by_block w₀ blocks))) stream

module _ {Item : Type 0} (w₀ : Channels) (t₀ : List Item) (blocks : List Bool) (reset : ℕ → Item) where
  pub started_none : Started w₀ t₀ blocks reset 0 w₀ t₀
  started_none = record {
    kept = kept_refl w₀;
    flow = λ ok before took put stream fl op. flows_ext w₀ t₀ ok before took took put (more put (first 0 (by_block w₀ blocks))) stream (λ e lt. refl) (λ e lt. more_none put (by_block w₀ blocks) 0 e) fl;
  }

  pub started_off : (n : ℕ) (w : Channels) (t : List Item) → Started w₀ t₀ blocks reset n w t → by_block w blocks n ≡ false → Started w₀ t₀ blocks reset (n + 1) w t
  started_off n w t s off = record {
    kept = s.kept;
    flow = λ ok before took put stream fl op. flows_ext w t ok before took took (more put (first n (by_block w₀ blocks))) (more put (first (n + 1) (by_block w₀ blocks))) stream (λ e lt. refl)
        (λ e lt. more_off put (by_block w₀ blocks) n (ap (λ x. get_or blocks (x - 1) false) (sym (s.kept.each n).source) ∙ off) e) (s.flow ok before took put stream fl op);
  }

  -- a source is always the number of a module
  pub started_lost : (n : ℕ) (w : Channels) (t : List Item) → Started w₀ t₀ blocks reset n w t → n < w₀.count → (1 ≤ (queue_at w n).source → (queue_at w n).source ≤ 64 → ⊥) → Started w₀ t₀ blocks reset (n + 1) w t
  started_lost n w t s lt never = record {
    kept = s.kept;
    flow = λ ok before took put stream fl op. absurd (never (omega (arith, op.low n lt, (s.kept.each n).source)) (omega (arith, op.high n lt, (s.kept.each n).source)));
  }

  pub started_on : (n : ℕ) (w : Channels) (t : List Item) (w' : Channels) (t' : List Item) (item : Item) → Started w₀ t₀ blocks reset n w t → n < w₀.count → by_block w blocks n ≡ true → item ≡ reset (queue_at w n).source
      → Kept w' w
      → ((ok : Bool) (before : List Item) (took put : ℕ → ℕ) (stream : ℕ → ℕ → Item) → Flows ok before w t took put stream → put n ≤ took n + (queue_at w n).size → (ok ≡ true → item ≡ stream n (put n)) → Flows ok before w' t' took (bump put n) stream)
      → Started w₀ t₀ blocks reset (n + 1) w' t'
  started_on n w t w' t' item s lt on is kept flow = record {
    kept = kept_trans w' w w₀ kept s.kept;
    flow = λ ok before took put stream fl op.
        let on₀ : by_block w₀ blocks n ≡ true = ap (λ x. get_or blocks (x - 1) false) (sym (s.kept.each n).source) ∙ on in
        let here = more_here put (by_block w₀ blocks) n in
        flows_ext w' t' ok before took took (bump (more put (first n (by_block w₀ blocks))) n) (more put (first (n + 1) (by_block w₀ blocks))) stream (λ e l. refl)
        (λ e l. more_on put (by_block w₀ blocks) n on₀ e)
        (flow ok before took (more put (first n (by_block w₀ blocks))) stream (s.flow ok before took put stream fl op)
        (omega (arith, here, op.room n lt, (s.kept.each n).size))
        (λ t. is ∙ ap reset (s.kept.each n).source ∙ op.next t n lt on₀ ∙ ap (stream n) (sym here)));
  }

  pub started_all : (n : ℕ) (w : Channels) (t : List Item) → Started w₀ t₀ blocks reset n w t → w₀.count ≤ n
      → (ok : Bool) (before : List Item) (took put : ℕ → ℕ) (stream : ℕ → ℕ → Item) → Flows ok before w₀ t₀ took put stream → Starts ok w₀ blocks reset took put stream → Flows ok before w t took (more put (by_block w₀ blocks)) stream
  started_all n w t s le ok before took put stream fl op =
      flows_ext w t ok before took took (more put (first n (by_block w₀ blocks))) (more put (by_block w₀ blocks)) stream (λ e l. refl) (λ e l. more_all put (by_block w₀ blocks) n e (omega (arith, s.kept.count))) (s.flow ok before took put stream fl op)
