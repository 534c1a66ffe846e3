-- One channel: an item taken, an item put. Assumes nothing.
use Rattle.std.proofs.Common.{◌≡◌, ℕ, ◌+◌, ◌-◌, ◌/◌, ◌%◌, ◌<◌, ◌≤◌, Bool, true, ◌≢◌, List, length, get_or, set, sym, ap, ◌∙◌, inl, inr, mul-le-mul_left, arith, get_or-set_other, get_or-set_same}
use native.Mathlib.Nat.{mod-add-mod, div-add-mod}
use Rattle.std.proofs.lemmas.Nat.{mod_below}
use Rattle.std.proofs.lemmas.Bool.{cases_lt}
use Rattle.queues.specs.declared.queue.Queue.{Queue}
use Rattle.queues.specs.Holds.{Holds}

-- Two numbers that are less than m apart have different rests.
pub mod_apart : (m i j : ℕ) → i < j → j < i + m → i % m ≢ j % m
mod_apart m i j less near e =
    let p = div-add-mod i m in
    let q = div-add-mod j m in
    elim (cases_lt (i / m) (j / m)) [
      | inl h ↦ omega (arith, mul-le-mul_left m h)
      | inr h ↦ omega (arith, mul-le-mul_left m h)
    ]

abbrev pub popped : Queue → Queue
popped c = record { source = c.source; sink = c.sink; size = c.size; base = c.base; fill = c.fill - 1; oldest = (c.oldest + 1) % (c.size + 1) }

abbrev pub pushed : Queue → Queue
pushed c = record { source = c.source; sink = c.sink; size = c.size; base = c.base; fill = c.fill + 1; oldest = c.oldest }

pub mod_low : (n m : ℕ) → n % m ≤ n
mod_low n m = omega (arith, div-add-mod n m)

module _ {Item : Type 0} (c : Queue) (table : List Item) (ok : Bool) (before : List Item) (took put : ℕ) (stream : ℕ → Item) (h : Holds ok before c table took put stream) where
  pub front : ok ≡ true → (x : Item) → took < put → c.fill ≤ c.size + 1 → x ≡ get_or table (c.base + c.oldest) x → x ≡ stream took
  front t x less high read = read ∙ ap (λ n. get_or table (c.base + n) x) h.turn ∙ h.items t took x less (omega (arith, h.count))

  -- only the entries of its part count
  pub holds_alike : (before' table' : List Item) → ((k : ℕ) (d : Item) → c.base ≤ k → k ≤ c.base + c.size → get_or table' k d ≡ get_or table k d)
      → ((k : ℕ) (d : Item) → c.base ≤ k → k ≤ c.base + c.size → get_or before' k d ≡ get_or before k d) → Holds ok before' c table' took put stream
  holds_alike before' table' same same_before = record {
    count = h.count;
    turn = h.turn;
    items = λ t k d lt near.
        let low : k % (c.size + 1) < c.size + 1 = mod_below k (c.size + 1) (omega arith) in
        same (c.base + k % (c.size + 1)) d (omega arith) (omega arith) ∙ h.items t k d lt near;
    rest = λ t j d le low. same (c.base + j) d (omega arith) (omega arith) ∙ h.rest t j d le low ∙ sym (same_before (c.base + j) d (omega arith) (omega arith));
  }

  pub pop_holds : took < put → Holds ok before (popped c) table (took + 1) put stream
  pop_holds less = record {
    count = omega (arith, h.count);
    turn = ap (λ n. (n + 1) % (c.size + 1)) h.turn ∙ mod-add-mod took (c.size + 1) 1;
    items = h.items;
    rest = h.rest;
  }

  pub push_holds : (x : Item) (at : ℕ) → at ≡ c.base + (c.oldest + c.fill) % (c.size + 1) → at < length table → (ok ≡ true → x ≡ stream put)
      → Holds ok before (pushed c) (set table at x) took (put + 1) stream
  push_holds x at place within is = record {
    count = omega (arith, h.count);
    turn = h.turn;
    items = λ t k d lt near. elim (cases_lt k put) [
      | inl l ↦
          let apart : k % (c.size + 1) ≢ put % (c.size + 1) = mod_apart (c.size + 1) k put l (omega arith) in
          let off : c.base + k % (c.size + 1) ≢ at = λ e. apart (omega (arith, e, there)) in
          get_or-set_other table at (c.base + k % (c.size + 1)) x d off ∙ h.items t k d l (omega arith)
      | inr m ↦
          let e : k ≡ put = omega arith in
          let on : c.base + k % (c.size + 1) ≡ at = ap (λ n. c.base + n % (c.size + 1)) e ∙ sym there in
          ap (λ n. get_or (set table at x) n d) on ∙ get_or-set_same table at x d within ∙ is t ∙ ap stream (sym e)
    ];
    rest = λ t j d le lt.
        let off : c.base + j ≢ at = λ e. omega (arith, e, there, mod_low put (c.size + 1)) in
        get_or-set_other table at (c.base + j) x d off ∙ h.rest t j d le (omega arith);
  }
    where
      there : at ≡ c.base + put % (c.size + 1)
      there = place ∙ ap (λ n. c.base + (n + c.fill) % (c.size + 1)) h.turn ∙ ap (λ n. c.base + n) (mod-add-mod took (c.size + 1) c.fill) ∙ ap (λ n. c.base + n % (c.size + 1)) h.count
