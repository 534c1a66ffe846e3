-- The loop in which a block absorbs its items. Assumes nothing.
use Rattle.std.proofs.Common.{◌≡◌, ℕ, ◌+◌, ◌<◌, ◌≤◌, Bool, true, cond, ◌≢◌, List, sym, refl, ap, ◌∙◌, ap₂, add-one, arith}
use Rattle.std.proofs.lemmas.Bool.{eq-eqb, ne_eqb}
use Rattle.cores.specs.Rules.{Rules}
use Rattle.queues.specs.declared.channels.Channels.{Channels}
use Rattle.queues.specs.Strict.{intake}
use Rattle.queues.specs.Flows.{Kept, Flows, Feeds, bump, more, first, into, queue_at}
use Rattle.queues.proofs.Replacing.{kept_refl, kept_trans}
use Rattle.queues.proofs.Turns.{flows_ext, more_none, more_all, more_here, more_on, more_off}

module _ {Item State : Type 0} (absorb : ℕ → State → Item → State) (sink : ℕ → ℕ) (brings : ℕ → Item) (v : ℕ) (s : State) where
  pub intake_none : s ≡ intake absorb sink brings v s 0
  unfolding intake
  intake_none = refl

  pub intake_on : (n : ℕ) → sink n ≡ v → intake absorb sink brings v s (n + 1) ≡ absorb v (intake absorb sink brings v s n) (brings n)
  unfolding intake
  intake_on n is = ap (intake absorb sink brings v s) (add-one n) ∙ ap (λ b. cond b (absorb v (intake absorb sink brings v s n) (brings n)) (intake absorb sink brings v s n)) (eq-eqb (sink n) v is)

  pub intake_off : (n : ℕ) → (sink n ≡ v → ⊥) → intake absorb sink brings v s (n + 1) ≡ intake absorb sink brings v s n
  unfolding intake
  intake_off n ne = ap (intake absorb sink brings v s) (add-one n) ∙ ap (λ b. cond b (absorb v (intake absorb sink brings v s n) (brings n)) (intake absorb sink brings v s n)) (ne_eqb (sink n) v ne)

-- after the turns at the first n channels
pub record Gathered {Item State : Type 0} (w₀ : Channels) (t : List Item) (r₀ : Rules Item State) (h₀ : ℕ → State) (v n : ℕ) (w : Channels) (r : Rules Item State) (h : ℕ → State) : Type 0 where
  pub kept : Kept w w₀
  pub rules : r ≡ r₀
  pub others : (u : ℕ) → 1 ≤ u → u ≢ v → h u ≡ h₀ u
  pub flow : (ok : Bool) (before : List Item) (took put : ℕ → ℕ) (stream : ℕ → ℕ → Item) → Flows ok before w₀ t took put stream → Feeds w₀ v took put
      → Flows ok before w t (more took (first n (into w₀ v))) put stream × (ok ≡ true → h v ≡ intake r₀.absorb (λ e. (queue_at w₀ e).sink) (λ e. stream e (took e)) v (h₀ v) n)

module _ {Item State : Type 0} (w₀ : Channels) (t : List Item) (r₀ : Rules Item State) (h₀ : ℕ → State) (v : ℕ) where
  pub gathered_none : Gathered w₀ t r₀ h₀ v 0 w₀ r₀ h₀
  gathered_none = record {
    kept = kept_refl w₀;
    rules = refl;
    others = λ u low ne. refl;
    flow = λ ok before took put stream fl fd. (
      flows_ext w₀ t ok before took (more took (first 0 (into w₀ v))) put put stream (λ e lt. more_none took (into w₀ v) 0 e) (λ e lt. refl) fl,
      λ t₁. intake_none r₀.absorb (λ e. (queue_at w₀ e).sink) (λ e. stream e (took e)) v (h₀ v),
    );
  }

  pub gathered_off : (n : ℕ) (w : Channels) (r : Rules Item State) (h : ℕ → State) → Gathered w₀ t r₀ h₀ v n w r h → ((queue_at w n).sink ≡ v → ⊥) → Gathered w₀ t r₀ h₀ v (n + 1) w r h
  gathered_off n w r h s ne = record {
    kept = s.kept;
    rules = s.rules;
    others = s.others;
    flow = λ ok before took put stream fl fd.
        let off : (queue_at w₀ n).sink ≡ v → ⊥ = λ q. ne ((s.kept.each n).sink ∙ q) in
        let past = s.flow ok before took put stream fl fd in (
          flows_ext w t ok before (more took (first n (into w₀ v))) (more took (first (n + 1) (into w₀ v))) put put stream (λ e lt. more_off took (into w₀ v) n (ne_eqb (queue_at w₀ n).sink v off) e) (λ e lt. refl) past.0,
          λ t₁. past.1 t₁ ∙ sym (intake_off r₀.absorb (λ e. (queue_at w₀ e).sink) (λ e. stream e (took e)) v (h₀ v) n off),
        );
  }

  -- the item of channel n is taken and absorbed
  pub gathered_on : (n : ℕ) (w w' : Channels) (r r' : Rules Item State) (h h' : ℕ → State) (item : Item) → Gathered w₀ t r₀ h₀ v n w r h → n < w₀.count → (queue_at w n).sink ≡ v
      → Kept w' w → r' ≡ r
      → ((u : ℕ) → 1 ≤ u → u ≢ v → h' u ≡ h u) → h' v ≡ r.absorb v (h v) item
      → ((ok : Bool) (before : List Item) (took put : ℕ → ℕ) (stream : ℕ → ℕ → Item) → Flows ok before w t took put stream → took n < put n → (ok ≡ true → item ≡ stream n (took n)) × Flows ok before w' t (bump took n) put stream)
      → Gathered w₀ t r₀ h₀ v (n + 1) w' r' h'
  gathered_on n w w' r r' h h' item s lt is kept rules others own flow = record {
    kept = kept_trans w' w w₀ kept s.kept;
    rules = rules ∙ s.rules;
    others = λ u low ne. others u low ne ∙ s.others u low ne;
    flow = λ ok before took put stream fl fd.
        let is₀ : (queue_at w₀ n).sink ≡ v = sym (s.kept.each n).sink ∙ is in
        let here = more_here took (into w₀ v) n in
        let past = s.flow ok before took put stream fl fd in
        let now = flow ok before (more took (first n (into w₀ v))) put stream past.0 (omega (arith, here, fd.each n lt is₀)) in (
          flows_ext w' t ok before (bump (more took (first n (into w₀ v))) n) (more took (first (n + 1) (into w₀ v))) put put stream (λ e l. more_on took (into w₀ v) n (eq-eqb (queue_at w₀ n).sink v is₀) e) (λ e l. refl) now.1,
          λ t₁. own ∙ ap (λ q. q.absorb v (h v) item) s.rules ∙ ap₂ (r₀.absorb v) (past.1 t₁) (now.0 t₁ ∙ ap (stream n) here)
              ∙ sym (intake_on r₀.absorb (λ e. (queue_at w₀ e).sink) (λ e. stream e (took e)) v (h₀ v) n is₀),
        );
  }

  pub gathered_all : (n : ℕ) (w : Channels) (r : Rules Item State) (h : ℕ → State) → Gathered w₀ t r₀ h₀ v n w r h → n ≡ w₀.count
      → (ok : Bool) (before : List Item) (took put : ℕ → ℕ) (stream : ℕ → ℕ → Item) → Flows ok before w₀ t took put stream → Feeds w₀ v took put
      → Flows ok before w t (more took (into w₀ v)) put stream × (ok ≡ true → h v ≡ intake r₀.absorb (λ e. (queue_at w₀ e).sink) (λ e. stream e (took e)) v (h₀ v) w₀.count)
  gathered_all n w r h s end ok before took put stream fl fd =
      let past = s.flow ok before took put stream fl fd in (
        flows_ext w t ok before (more took (first n (into w₀ v))) (more took (into w₀ v)) put put stream (λ e lt. more_all took (into w₀ v) n e (omega (arith, s.kept.count))) (λ e lt. refl) past.0,
        λ t₁. past.1 t₁ ∙ ap (intake r₀.absorb (λ e. (queue_at w₀ e).sink) (λ e. stream e (took e)) v (h₀ v)) end,
      )

  -- a channel that leads to v is never found empty where it has an item
  pub gathered_lost : (n : ℕ) (w w' : Channels) (r : Rules Item State) (h : ℕ → State) → Gathered w₀ t r₀ h₀ v n w r h → n < w₀.count → (queue_at w n).sink ≡ v
      → Kept w' w
      → ((ok : Bool) (before : List Item) (took put : ℕ → ℕ) (stream : ℕ → ℕ → Item) → Flows ok before w t took put stream → took n < put n → ⊥)
      → Gathered w₀ t r₀ h₀ v (n + 1) w' r h
  gathered_lost n w w' r h s lt is kept never = record {
    kept = kept_trans w' w w₀ kept s.kept;
    rules = s.rules;
    others = s.others;
    flow = λ ok before took put stream fl fd.
        let is₀ : (queue_at w₀ n).sink ≡ v = sym (s.kept.each n).sink ∙ is in
        let here = more_here took (into w₀ v) n in
        absurd (never ok before (more took (first n (into w₀ v))) put stream (s.flow ok before took put stream fl fd).0 (omega (arith, here, fd.each n lt is₀)));
  }
