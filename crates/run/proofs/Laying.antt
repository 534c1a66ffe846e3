-- The records of a new run. Assumes nothing.
use Rattle.std.proofs.Common.{◌≡◌, ℕ, ◌+◌, ◌<◌, ◌≤◌, true, List, length, get_or, set, replicate, None, sym, refl, ap, ◌∙◌, subst, subst₂, inl, inr, add-one, arith, length-set, get_or-set_other, get_or-set_same}
use Rattle.std.proofs.lemmas.Bool.{cases_eq, cases_lt}
use Rattle.std.proofs.lemmas.List.{get_or-replicate, get_or_past}
use Rattle.netlist.specs.declared.channel.Channel.{Channel}
use Rattle.netlist.specs.declared.netlist.Netlist.{Netlist}
use Rattle.netlist.specs.Holds.{channels, channels_of}
use Rattle.rating.specs.Sizings.{sizing_fault}
use Rattle.rating.proofs.Sizes.{sizing_fits}
use Rattle.counts.specs.Nets.{net_of}
use Rattle.counts.specs.Origins.{base}
use Rattle.queues.specs.declared.channels.Channels.{Channels}
use Rattle.queues.specs.declared.queue.Queue.{Queue}
use Rattle.queues.specs.Flows.{Flows, queue_at}
use Rattle.queues.specs.Parts.{blank}
use Rattle.queues.specs.Stands.{Matches}
use Rattle.queues.proofs.Tables.{flows_none}
use Rattle.run.specs.Making.{LaidOut, Small, nowhere, queue_of, size_at}

base_more : (size : ℕ → ℕ) (n : ℕ) → base size (n + 1) ≡ base size n + (size n + 1)
unfolding base
base_more size n = ap (base size) (add-one n)

base_none : (size : ℕ → ℕ) → 0 ≡ base size 0
unfolding base
base_none size = refl

pub laid_none : (cs : List Channel) (qs : List ℕ) → LaidOut cs qs (replicate 192 blank) 0 0
laid_none cs qs = record {
  len = refl;
  done = λ e lt. absurd (omega arith);
  rest = λ e le. elim (cases_lt e 192) [ inl lt ↦ get_or-replicate 192 e blank blank lt | inr past ↦ get_or_past (replicate 192 blank) e blank past ];
  next_is = base_none (size_at qs);
  next_high = omega arith;
}

pub laid_more : (cs : List Channel) (qs : List ℕ) (queues : List Queue) (n next : ℕ) → LaidOut cs qs queues n next → n < 192 → size_at qs n ≤ 16
    → LaidOut cs qs (set queues n (record { source = (get_or cs n nowhere).source; sink = (get_or cs n nowhere).sink; size = size_at qs n; base = next; fill = 0; oldest = 0 })) (n + 1) (next + (size_at qs n + 1))
laid_more cs qs queues n next l lt small =
    let of_base : ℕ → Queue = λ b. record { source = (get_or cs n nowhere).source; sink = (get_or cs n nowhere).sink; size = size_at qs n; base = b; fill = 0; oldest = 0 } in
    let inside : n < length queues = omega (arith, l.len) in
    record {
      len = length-set queues n (of_base next) ∙ l.len;
      done = λ e less. elim (cases_eq e n) [
        | inl q ↦ subst (λ (i : ℕ). get_or (set queues n (of_base next)) i blank ≡ queue_of cs qs i) (sym q) (get_or-set_same queues n (of_base next) blank inside ∙ ap of_base l.next_is)
        | inr ne ↦ get_or-set_other queues n e (of_base next) blank ne ∙ l.done e (omega arith)
      ];
      rest = λ e le. get_or-set_other queues n e (of_base next) blank (λ q. omega arith) ∙ l.rest e (omega arith);
      next_is = ap (λ b. b + (size_at qs n + 1)) l.next_is ∙ sym (base_more (size_at qs) n);
      next_high = omega (arith, l.next_high, small);
    }

-- one more channel behind those that are laid out
pub laid_add : (cs : List Channel) (qs : List ℕ) (w w' : Channels) (e : ℕ) → (w.count ≡ e) × LaidOut cs qs w.queues e w.entries → e < 192 → size_at qs e ≤ 16
    → w'.count ≡ w.count + 1 → w'.entries ≡ w.entries + (size_at qs e + 1)
    → w'.queues ≡ set w.queues w.count (record { source = (get_or cs e nowhere).source; sink = (get_or cs e nowhere).sink; size = size_at qs e; base = w.entries; fill = 0; oldest = 0 })
    → (w'.count ≡ e + 1) × LaidOut cs qs w'.queues (e + 1) w'.entries
laid_add cs qs w w' e (at, l) lt small count entries queues =
    let x : Queue = record { source = (get_or cs e nowhere).source; sink = (get_or cs e nowhere).sink; size = size_at qs e; base = w.entries; fill = 0; oldest = 0 } in
    let queues_are : w'.queues ≡ set w.queues e x = queues ∙ ap (λ n. set w.queues n x) at in
    let more = laid_more cs qs w.queues e w.entries l lt small in (
      count ∙ ap (λ n. n + 1) at,
      subst₂ (λ (xs : List Queue) (n : ℕ). LaidOut cs qs xs (e + 1) n) (sym queues_are) (sym entries) more,
    )

module _ (n : Netlist) (qs : List ℕ) (cs : List Channel) (w : Channels) (lends : cs ≡ channels_of n) (same : length qs ≡ length cs) (count : w.count ≡ length cs) (l : LaidOut cs qs w.queues (length cs) w.entries) where
  -- a field of a record is that of the lists, within and past their end
  field : (f : Queue → ℕ) (g : ℕ → ℕ) → ((e : ℕ) → f (queue_of cs qs e) ≡ g e) → ((e : ℕ) → length cs ≤ e → g e ≡ f blank) → (e : ℕ) → g e ≡ f (queue_at w e)
  field f g in_it past e = elim (cases_lt e (length cs)) [
    | inl lt ↦ sym (ap f (l.done e lt) ∙ in_it e)
    | inr le ↦ past e le ∙ sym (ap f (l.rest e le))
  ]

  many : length cs ≡ channels n
  many = ap length lends ∙ sym n.channels.ok.0

  in_lists : (e : ℕ) → e < w.count → e < length cs
  in_lists e lt = subst (λ (k : ℕ). e < k) count lt

  pub matches_laid : Matches (net_of n qs) w
  matches_laid = record {
    channels = sym (count ∙ many);
    source = λ e. ap (λ (xs : List Channel). (get_or xs e nowhere).source) (sym lends) ∙ field (λ c. c.source) (λ i. (get_or cs i nowhere).source) (λ i. refl) (λ i le. ap (λ c. c.source) (get_or_past cs i nowhere le)) e;
    sink = λ e. ap (λ (xs : List Channel). (get_or xs e nowhere).sink) (sym lends) ∙ field (λ c. c.sink) (λ i. (get_or cs i nowhere).sink) (λ i. refl) (λ i le. ap (λ c. c.sink) (get_or_past cs i nowhere le)) e;
    size = field (λ c. c.size) (size_at qs) (λ i. refl) (λ i le. get_or_past qs i 0 (omega (arith, same)));
    base_is = λ e lt. sym (ap (λ c. c.base) (l.done e (omega (arith, many))));
  }

  -- all channels are empty
  pub flows_laid : {Item : Type 0} (table : List Item) (stream : ℕ → ℕ → Item) → Flows true table w table (λ _. 0) (λ _. 0) stream
  flows_laid table stream = flows_none w table true stream (λ e lt. ap (λ c. c.fill) (l.done e (in_lists e lt))) (λ e lt. ap (λ c. c.oldest) (l.done e (in_lists e lt)))

  pub entries_are : w.entries ≡ base (size_at qs) (channels n)
  entries_are = l.next_is ∙ ap (base (size_at qs)) many

-- what a sizing without fault says of the lists that a netlist and a rating lend
pub lists_fit : (n : Netlist) (qs qs' : List ℕ) (cs : List Channel) → cs ≡ channels_of n → qs ≡ qs' → sizing_fault (channels n) qs' ≡ None → (length cs ≤ 192) × (length qs ≡ length cs) × Small qs
lists_fit n qs qs' cs lends is sized =
    let fits = sizing_fits (channels n) qs' sized in
    let many : length cs ≡ channels n = ap length lends ∙ sym n.channels.ok.0 in
    let long : length qs ≡ length qs' = ap length is in
    (omega (arith, many, n.few), omega (arith, many, long, fits.0), λ e lt. rw is (fits.1 e (omega (arith, long))).1)
