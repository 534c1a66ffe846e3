-- A table that reaches the target is deeper somewhere on each cycle that is slow under another table.
use Rattle.std.proofs.Common.{◌≡◌, ℕ, zero, suc, ◌+◌, ◌-◌, ◌*◌, ◌/◌, ◌<◌, ◌≤◌, List, [], ◌∷◌, length, get_or, take, sym, refl, ◌∙◌, subst, ⊎_elim, mul-le-mul_left, arith}
use native.Mathlib.Nat.{lt_of_mul-lt-mul_left}
use Rattle.std.proofs.lemmas.Bool.{cases_lt}
use Rattle.marked.specs.declared.place.Place.{Place}
use Rattle.marked.specs.Answers.{Found}
use Rattle.marked.specs.Graphs.{Cycle, Leads, Slow, at, tokens_on}
use Rattle.marked.proofs.Walks.{leads_inside}
use Rattle.netlist.specs.declared.channel.Channel.{Channel}
use Rattle.netlist.specs.declared.kind.Kind.{Kind}
use Rattle.netlist.specs.declared.netlist.Netlist.{Netlist}
use Rattle.netlist.specs.Holds.{channels, channels_of, kind_of, modules}
use Rattle.rating.specs.Extended.{extended, graph_of}
use Rattle.rating.proofs.Measuring.{front_is}
use Rattle.rating.proofs.Places.{length_extended}
use Rattle.rating.proofs.Sizes.{sizing_fits}
use Rattle.sizing.specs.Candidates.{Reaching}
use Rattle.sizing.specs.Trials.{Backward, Ready}
use Rattle.sizing.proofs.Gains.{gain, half, more_walk}

-- t is deeper than s at a channel along which a place of the walk leads back
pub record Deeper (s ps t : List ℕ) : Type 0 where
  pub which : ℕ
  pub within : which < length ps
  pub backward : Backward (get_or ps which 0)
  pub deeper : get_or s (get_or ps which 0 / 2) 0 < get_or t (get_or ps which 0 / 2) 0

module _ (kind : ℕ → Kind) where
  -- a sizing does not move places
  same_ends : (cs : List Channel) (s t : List ℕ) → length s ≡ length t → (p : ℕ)
      → ((at (extended kind cs s) p).from ≡ (at (extended kind cs t) p).from) × ((at (extended kind cs s) p).to ≡ (at (extended kind cs t) p).to)
  same_ends [] s t l p = (refl, refl)
  same_ends (c ∷ cs) [] [] l p = (refl, refl)
  same_ends (c ∷ cs) [] (r ∷ t) l p = absurd (omega arith)
  same_ends (c ∷ cs) (q ∷ s) [] l p = absurd (omega arith)
  same_ends (c ∷ cs) (q ∷ s) (r ∷ t) l zero = (refl, refl)
  same_ends (c ∷ cs) (q ∷ s) (r ∷ t) l (suc zero) = (refl, refl)
  same_ends (c ∷ cs) (q ∷ s) (r ∷ t) l (suc (suc p)) = same_ends cs s t (omega arith) p

  -- and brings tokens only to a place that leads back along a channel with a deeper queue
  deeper_place : (cs : List Channel) (s t : List ℕ) → length s ≡ length t → (p : ℕ)
      → (at (extended kind cs s) p).tokens < (at (extended kind cs t) p).tokens → Backward p × (get_or s (p / 2) 0 < get_or t (p / 2) 0)
  deeper_place [] s t l p h = absurd (omega arith)
  deeper_place (c ∷ cs) [] [] l p h = absurd (omega arith)
  deeper_place (c ∷ cs) [] (r ∷ t) l p h = absurd (omega arith)
  deeper_place (c ∷ cs) (q ∷ s) [] l p h = absurd (omega arith)
  deeper_place (c ∷ cs) (q ∷ s) (r ∷ t) l zero h = absurd (omega arith)
  deeper_place (c ∷ cs) (q ∷ s) (r ∷ t) l (suc zero) h = (refl, omega arith)
  deeper_place (c ∷ cs) (q ∷ s) (r ∷ t) l (suc (suc p)) h =
      let d = deeper_place cs s t (omega arith) p h in (omega (arith, d.0), rw (half p) d.1)

  -- so where a walk has more tokens, one of its places does
  deeper_walk : (cs : List Channel) (s t : List ℕ) → length s ≡ length t → (ps : List ℕ)
      → tokens_on (extended kind cs s) ps < tokens_on (extended kind cs t) ps → Deeper s ps t
  deeper_walk cs s t l [] h = absurd (omega arith)
  deeper_walk cs s t l (p ∷ ps) h =
      ⊎_elim
      (λ (more : (at (extended kind cs s) p).tokens < (at (extended kind cs t) p).tokens).
      let d = deeper_place cs s t l p more in record { which = 0; within = omega arith; backward = d.0; deeper = d.1 })
      (λ (less : (at (extended kind cs t) p).tokens ≤ (at (extended kind cs s) p).tokens).
      let d = deeper_walk cs s t l ps (omega arith) in
      record { which = suc d.which; within = omega (arith, d.within); backward = d.backward; deeper = d.deeper })
      (cases_lt (at (extended kind cs s) p).tokens (at (extended kind cs t) p).tokens)

same_leads : (G H : List Place) → length G ≡ length H → ((p : ℕ) → ((at G p).from ≡ (at H p).from) × ((at G p).to ≡ (at H p).to))
    → (ps : List ℕ) (u v : ℕ) → Leads G u ps v → Leads H u ps v
same_leads G H l e [] u v h = h
same_leads G H l e (p ∷ ps) u v h =
    (omega (arith, h.0), sym (e p).0 ∙ h.1, subst (λ x. Leads H x ps v) (e p).1 (same_leads G H l e ps (at G p).to v h.2))

-- a sizing has a byte for each channel
pub sized_length : (n : Netlist) (caps s : List ℕ) → Ready n caps s → length s ≡ length (channels_of n)
sized_length n caps s ready = omega (arith, (sizing_fits (channels n) s ready.sized).0, n.channels.ok.0)

-- the places of a walk belong to channels, and each table that reaches the target is deeper than s at one of them
pub record Covers (n : Netlist) (a b : ℕ) (s ps : List ℕ) : Type 0 where
  pub places : (i : ℕ) → i < length ps → get_or ps i 0 / 2 < length s
  pub all : (t : List ℕ) → length s ≡ length t → Reaching n a b t → Deeper s ps t

module _ (n : Netlist) (a b : ℕ) (caps s : List ℕ) (ready : Ready n caps s) where
  long : length (graph_of n s) ≡ 2 * length s
  long =
      let l : length s ≡ length (channels_of n) = sized_length n caps s ready in
      omega (arith, length_extended (kind_of n) (channels_of n) s l)

  same_long : (t : List ℕ) → length s ≡ length t → length (graph_of n s) ≡ length (graph_of n t)
  same_long t e =
      let l : length s ≡ length (channels_of n) = sized_length n caps s ready in
      omega (arith, long, length_extended (kind_of n) (channels_of n) t (omega arith))

  -- a cycle under one sizing is a cycle under another, so a table that reaches the target has enough tokens on it
  enough_on : (ps : List ℕ) → Cycle (graph_of n s) ps → (t : List ℕ) → length s ≡ length t → Reaching n a b t → a * length ps ≤ b * tokens_on (graph_of n t) ps
  enough_on ps cycle t e good =
      let ends = same_ends (kind_of n) (channels_of n) s t e in
      good ps (record { some = cycle.some; hub = cycle.hub; closed = same_leads (graph_of n s) (graph_of n t) (same_long t e) ends ps cycle.hub cycle.hub cycle.closed })

  -- which it has gained along the cycle
  pub gain_on : (ps : List ℕ) → Cycle (graph_of n s) ps → (t : List ℕ) → length s ≡ length t → Reaching n a b t → a * length ps ≤ b * (tokens_on (graph_of n s) ps + gain s t ps)
  gain_on ps cycle t e good = omega (arith, enough_on ps cycle t e good, mul-le-mul_left b (more_walk (kind_of n) (channels_of n) s t e ps))

  slow_covers : (ps : List ℕ) → Cycle (graph_of n s) ps → Slow a b (graph_of n s) ps → Covers n a b s ps
  slow_covers ps cycle slow =
      record {
        places = λ i l. let p : get_or ps i 0 < length (graph_of n s) = leads_inside (graph_of n s) ps cycle.hub cycle.hub cycle.closed i l in omega (arith, long);
        all = λ t e good.
            deeper_walk (kind_of n) (channels_of n) s t e ps (lt_of_mul-lt-mul_left b (omega (arith, slow, enough_on ps cycle t e good)));
      }

  -- the part of the cycle list that the code goes over
  pub found_covers : (before after : List ℕ) (k : ℕ) → Found (modules n) a b (graph_of n s) before after k → Covers n a b s (take (k - 0) after)
  found_covers before after k f = subst (Covers n a b s) (sym (front_is k after)) (slow_covers (take k after) f.cycle f.slow)

-- the same where the netlist and the sizing are those that were lent to the call that found the cycle
pub lent_covers : {n lent : Netlist} {a b : ℕ} {caps s lent' before after : List ℕ} {k : ℕ} → lent ≡ n → lent' ≡ s → Ready n caps s
    → Found (modules lent) a b (graph_of lent lent') before after k → Covers n a b s (take (k - 0) after)
lent_covers {n} {lent} {a} {b} {caps} {s} {lent'} {before} {after} {k} is same ready found =
    found_covers n a b caps s ready before after k (subst (λ (m : Netlist). Found (modules m) a b (graph_of m s) before after k) is
    (subst (λ (t : List ℕ). Found (modules lent) a b (graph_of lent t) before after k) same found))
