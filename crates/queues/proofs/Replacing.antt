-- One channel's record replaced among all. Assumes nothing.
use Rattle.std.proofs.Common.{◌≡◌, ℕ, ◌+◌, ◌<◌, ◌≤◌, Bool, cond, ◌≢◌, ◌⊎◌, List, length, get_or, set, sym, refl, ap, ◌∙◌, subst, inl, inr, add-zero, arith, get_or-set_other, get_or-set_same}
use Rattle.std.proofs.lemmas.Bool.{cases_eq, cases_order, eq-eqb, ne_eqb}
use Rattle.queues.specs.declared.queue.Queue.{Queue}
use Rattle.queues.specs.declared.channels.Channels.{Channels}
use Rattle.queues.specs.Holds.{Sound, Alike, Holds}
use Rattle.queues.proofs.Queues.{holds_alike}
use Rattle.queues.specs.Parts.{Sounds, Apart, blank, queue_in}
use Rattle.queues.specs.Flows.{Laid, Kept, Flows, bump, queue_at}

pub alike_refl : (c : Queue) → Alike c c
alike_refl c = record { source = refl; sink = refl; size = refl; base = refl }

pub kept_refl : (w : Channels) → Kept w w
kept_refl w = record { count = refl; entries = refl; each = λ e. alike_refl (queue_at w e) }

pub alike_trans : (a b c : Queue) → Alike a b → Alike b c → Alike a c
alike_trans a b c p q = record { source = p.source ∙ q.source; sink = p.sink ∙ q.sink; size = p.size ∙ q.size; base = p.base ∙ q.base }

pub kept_trans : (u v w : Channels) → Kept u v → Kept v w → Kept u w
kept_trans u v w p q = record { count = p.count ∙ q.count; entries = p.entries ∙ q.entries; each = λ e. alike_trans (queue_at u e) (queue_at v e) (queue_at w e) (p.each e) (q.each e) }

pub bump_same : (f : ℕ → ℕ) (e : ℕ) → bump f e e ≡ f e + 1
bump_same f e = ap (λ t. f e + cond t 1 0) (eq-eqb e e refl)

pub bump_other : (f : ℕ → ℕ) (e j : ℕ) → j ≢ e → bump f e j ≡ f j
bump_other f e j ne = ap (λ t. f j + cond t 1 0) (ne_eqb j e ne) ∙ add-zero (f j)

-- what holds of x, and of each other record of a list, holds of each once x stands at e
module _ (qs : List Queue) (e : ℕ) (x : Queue) (inside : e < length qs) where
  pub set_case : (P : ℕ → Queue → Type 0) → P e x → ((j : ℕ) → j ≢ e → P j (queue_in qs j)) → (j : ℕ) → P j (queue_in (set qs e x) j)
  set_case P here there j = elim (cases_eq j e) [
    | inl q ↦ subst (λ (i : ℕ). P i (queue_in (set qs e x) i)) (sym q) (subst (λ (c : Queue). P e c) (sym (get_or-set_same qs e x blank inside)) here)
    | inr ne ↦ subst (λ (c : Queue). P j c) (sym (get_or-set_other qs e j x blank ne)) (there j ne)
  ]

  -- the facts of the channels' type stand
  pub sounds_set : (n entries len : ℕ) → Alike x (queue_in qs e) → Sound x len → Sounds n qs entries → Sounds n (set qs e x) entries
  sounds_set n entries len alike sound s =
      set_case (λ j c. j < n → (c.size ≤ 16) × (c.fill ≤ c.size + 1) × (c.oldest ≤ c.size) × (c.base + c.size < entries))
      (λ lt. (sound.size_high, sound.fill_high, sound.oldest_high, omega (arith, (s e lt).3, alike.base, alike.size))) (λ j ne. s j)

  pub apart_set : (n : ℕ) → Alike x (queue_in qs e) → Apart n qs → Apart n (set qs e x)
  apart_set n alike a d f less lt =
      let still : (j : ℕ) → Alike (queue_in (set qs e x) j) (queue_in qs j) = set_case (λ j c. Alike c (queue_in qs j)) alike (λ j ne. alike_refl (queue_in qs j)) in
      omega (arith, a d f less lt, (still d).base, (still d).size, (still f).base)

-- w with the record of channel e replaced by x
module _ (w w' : Channels) (e : ℕ) (x : Queue) (inside : e < length w.queues) (alike : Alike x (queue_at w e)) (count : w'.count ≡ w.count) (entries : w'.entries ≡ w.entries) (queues : w'.queues ≡ set w.queues e x) where
  queue_at_case : (P : ℕ → Queue → Type 0) → P e x → ((j : ℕ) → j ≢ e → P j (queue_at w j)) → (j : ℕ) → P j (queue_at w' j)
  queue_at_case P here there j = subst (λ (qs : List Queue). P j (queue_in qs j)) (sym queues) (set_case w.queues e x inside P here there j)

  pub kept_lent : Kept w' w
  kept_lent = record { count = count; entries = entries; each = queue_at_case (λ j c. Alike c (queue_at w j)) alike (λ j ne. alike_refl (queue_at w j)) }

  -- what lies outside a part lies outside it still
  outside_lent : (k j : ℕ) → (k < (queue_at w' j).base) ⊎ ((queue_at w' j).base + (queue_at w' j).size < k) → (k < (queue_at w j).base) ⊎ ((queue_at w j).base + (queue_at w j).size < k)
  outside_lent k j out = elim out [
    | inl below ↦ inl (omega (arith, below, (kept_lent.each j).base))
    | inr above ↦ inr (omega (arith, above, (kept_lent.each j).base, (kept_lent.each j).size))
  ]

  within_old : (j : ℕ) → j < w'.count → j < w.count
  within_old j lt = subst (λ (n : ℕ). j < n) count lt

  within_new : (j : ℕ) → j < w.count → j < w'.count
  within_new j lt = subst (λ (n : ℕ). j < n) (sym count) lt

  pub flows_take : {Item : Type 0} (table : List Item) (ok : Bool) (before : List Item) (took put : ℕ → ℕ) (stream : ℕ → ℕ → Item) → Flows ok before w table took put stream
      → Holds ok before x table (took e + 1) (put e) (stream e) → Flows ok before w' table (bump took e) put stream
  flows_take table ok before took put stream fl h = record {
    each = queue_at_case (λ j c. j < w'.count → Holds ok before c table (bump took e j) (put j) (stream j))
        (λ lt. subst (λ (n : ℕ). Holds ok before x table n (put e) (stream e)) (sym (bump_same took e)) h)
        (λ j ne lt. subst (λ (n : ℕ). Holds ok before (queue_at w j) table n (put j) (stream j)) (sym (bump_other took e j ne)) (fl.each j (within_old j lt)));
    beyond = λ t k d out. fl.beyond t k d (λ j lt. outside_lent k j (out j (within_new j lt)));
  }

  pub flows_put : {Item : Type 0} (table table' : List Item) (ok : Bool) (before : List Item) (took put : ℕ → ℕ) (stream : ℕ → ℕ → Item) → e < w.count → Flows ok before w table took put stream
      → ((k : ℕ) (d : Item) → (k < (queue_at w e).base) ⊎ ((queue_at w e).base + (queue_at w e).size < k) → get_or table' k d ≡ get_or table k d)
      → Holds ok before x table' (took e) (put e + 1) (stream e) → Flows ok before w' table' took (bump put e) stream
  flows_put table table' ok before took put stream within fl same h = record {
    each = queue_at_case (λ j c. j < w'.count → Holds ok before c table' (took j) (bump put e j) (stream j))
        (λ lt. subst (λ (n : ℕ). Holds ok before x table' (took e) n (stream e)) (sym (bump_same put e)) h)
        (λ j ne lt. subst (λ (n : ℕ). Holds ok before (queue_at w j) table' (took j) n (stream j)) (sym (bump_other put e j ne))
        (holds_alike (queue_at w j) table ok before (took j) (put j) (stream j) (fl.each j (within_old j lt)) before table'
        (λ k d low high. same k d (elim (cases_order j e) [
          | inl q ↦ elim (ne q) [ ]
          | inr o ↦ elim o [ inl ahead ↦ inl (omega (arith, w.apart j e ahead within)) | inr behind ↦ inr (omega (arith, w.apart e j behind (within_old j lt))) ]
        ])) (λ k d low high. refl)));
    beyond = λ t k d out. same k d (outside_lent k e (out e (within_new e within))) ∙ fl.beyond t k d (λ j lt. outside_lent k j (out j (within_new j lt)));
  }

-- the channels are laid out in each table that has their entries
sound_at : (w : Channels) (len : ℕ) → w.entries ≤ len → (e : ℕ) → e < w.count → Sound (queue_at w e) len
sound_at w len le e lt = let s = w.sounds e lt in record { size_high = s.0; fill_high = s.1; oldest_high = s.2; within = omega (arith, s.3) }

pub laid_of : (w : Channels) (len : ℕ) → w.entries ≤ len → Laid w len
laid_of w len le = record { count_high = w.count_high; each = sound_at w len le; apart = w.apart }
