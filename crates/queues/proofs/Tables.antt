-- What the channels say of a table, in the forms that callers want. Assumes nothing.
use Rattle.std.proofs.Common.{◌≡◌, ℕ, zero, suc, ◌+◌, ◌%◌, ◌<◌, ◌≤◌, Bool, true, false, List, get_or, sym, refl, ◌∙◌, subst, inl, inr, arith}
use Rattle.std.proofs.lemmas.Bool.{cases_eq, cases_lt, false≢true}
use Rattle.counts.specs.Nets.{Net}
use Rattle.counts.specs.Origins.{base}
use Rattle.queues.specs.declared.queue.Queue.{Queue}
use Rattle.queues.specs.declared.channels.Channels.{Channels}
use Rattle.queues.specs.Holds.{Holds}
use Rattle.queues.specs.Flows.{Laid, Flows, queue_at}
use Rattle.queues.specs.Stands.{Matches}
use Rattle.queues.proofs.Queues.{mod_low, holds_alike}

module _ {Item : Type 0} (c : Queue) (table : List Item) (ok : Bool) (before : List Item) (took put : ℕ) (stream : ℕ → Item) (h : Holds ok before c table took put stream) where
  -- the items that wait lie where they were put
  pub waiting : ok ≡ true → c.fill ≤ c.size + 1 → (k : ℕ) (d : Item) → k < c.fill → get_or table (c.base + (took + k) % (c.size + 1)) d ≡ stream (took + k)
  waiting t high k d lt = h.items t (took + k) d (omega (arith, h.count)) (omega (arith, h.count))

  -- the counts stand whatever becomes of the table
  pub holds_counts : (before' table' : List Item) → Holds false before' c table' took put stream
  holds_counts before' table' = record { count = h.count; turn = h.turn; items = λ y. absurd (false≢true y); rest = λ y. absurd (false≢true y) }

module _ {Item : Type 0} (w : Channels) (table : List Item) (ok : Bool) (before : List Item) (took put : ℕ → ℕ) (stream : ℕ → ℕ → Item) (fl : Flows ok before w table took put stream) where
  pub flows_counts : (before' table' : List Item) → Flows false before' w table' took put stream
  flows_counts before' table' = record {
    each = λ e lt. holds_counts (queue_at w e) table ok before (took e) (put e) (stream e) (fl.each e lt) before' table';
    beyond = λ y. absurd (false≢true y);
  }

  -- another table that has the same in the channels' parts; behind them it may have anything from the first
  pub flows_alike : (before' table' : List Item) (entries : ℕ) → Laid w entries → ((k : ℕ) (d : Item) → k < entries → get_or table' k d ≡ get_or table k d)
      → ((k : ℕ) (d : Item) → k < entries → get_or before' k d ≡ get_or before k d) → ((k : ℕ) (d : Item) → entries ≤ k → get_or table' k d ≡ get_or before' k d)
      → Flows ok before' w table' took put stream
  flows_alike before' table' entries laid same same_before behind = record {
    each = λ e lt. holds_alike (queue_at w e) table ok before (took e) (put e) (stream e) (fl.each e lt) before' table'
        (λ k d low high. same k d (omega (arith, (laid.each e lt).within))) (λ k d low high. same_before k d (omega (arith, (laid.each e lt).within)));
    beyond = λ t k d out. elim (cases_lt k entries) [
      | inl lt ↦ same k d lt ∙ fl.beyond t k d out ∙ sym (same_before k d lt)
      | inr ge ↦ behind k d (omega arith)
    ];
  }

-- the part of a channel ends before the entries of all of the first n do
pub base_up : (size : ℕ → ℕ) (n e : ℕ) → e < n → base size e + size e < base size n
unfolding base
base_up size zero e lt = absurd (omega arith)
base_up size (suc n) e lt = elim (cases_eq e n) [
  | inl q ↦ subst (λ (i : ℕ). base size i + size i < base size n + (size n + 1)) (sym q) (omega arith)
  | inr ne ↦ omega (arith, base_up size n e (omega arith))
]

-- the entries behind the last channel's keep what they had
pub behind_all : {Item : Type 0} (net : Net) (w : Channels) (table : List Item) (ok : Bool) (before : List Item) (took put : ℕ → ℕ) (stream : ℕ → ℕ → Item)
    → Matches net w → Flows ok before w table took put stream → ok ≡ true → (k : ℕ) (d : Item) → base net.size net.channels ≤ k → get_or table k d ≡ get_or before k d
behind_all net w table ok before took put stream m fl t k d le = fl.beyond t k d (λ e lt.
    let inside : e < net.channels = subst (λ (n : ℕ). e < n) (sym m.channels) lt in
    inr (omega (arith, base_up net.size net.channels e inside, m.base_is e inside, m.size e)))

-- channels that no item was put into
pub flows_none : {Item : Type 0} (w : Channels) (table : List Item) (ok : Bool) (stream : ℕ → ℕ → Item) → ((e : ℕ) → e < w.count → (queue_at w e).fill ≡ 0) → ((e : ℕ) → e < w.count → (queue_at w e).oldest ≡ 0)
    → Flows ok table w table (λ _. 0) (λ _. 0) stream
flows_none w table ok stream empty first = record {
  each = λ e lt. record {
    count = omega (arith, empty e lt);
    turn = omega (arith, first e lt, mod_low 0 ((queue_at w e).size + 1));
    items = λ t k d less. absurd (omega arith);
    rest = λ t j d le low. refl;
  };
  beyond = λ t k d out. refl;
}
