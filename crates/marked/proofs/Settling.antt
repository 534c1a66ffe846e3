-- What a round that lowers nothing says of every walk. Assumes nothing.
use Rattle.std.proofs.Common.{◌≡◌, ℕ, zero, suc, ◌+◌, ◌-◌, ◌*◌, ◌<◌, ◌≤◌, List, [], ◌∷◌, ◌++◌, length, get_or, ℤ, pos, neg_ℤ, Some, None, Option, sym, refl, ap, ◌∙◌, subst, mul-le-mul_left, mul-zero, mul-one, mul-suc, mul-add, arith}
use Rattle.std.proofs.lemmas.List.{length_push}
use Rattle.std.proofs.lemmas.Int.{ints}
use Rattle.marked.specs.declared.weighed.Weighed.{Weighed}
use Rattle.marked.specs.declared.level.Level.{Level}
use Rattle.marked.specs.Graphs.{Leads, tokens_on}
use Rattle.marked.specs.Answers.{Settled}
use Rattle.marked.specs.Rounds.{places_of, place_of, value, depth, depth_at, via_at, Entry, Relaxed, level, Rounds}
use Rattle.marked.proofs.Depths.{by_depth}
use Rattle.marked.proofs.Falls.{lows, under}
use Rattle.marked.proofs.Relaxing.{from_in}
use Rattle.marked.proofs.Walks.{leads_append, tokens_append, weights_is}

-- the depth d of v is that of a walk to v
record Reach (w : Weighed) (v d : ℕ) : Type 0 where
  source : ℕ
  walk : List ℕ
  leads : Leads (places_of w) source walk v
  sum : d + w.target.b * tokens_on (places_of w) walk ≡ w.target.a * length walk

module _ (w : Weighed) where
  -- one more place at the end of a walk, where one lowered v
  reach_entry : (old : Level) (v d : ℕ) (via : Option ℕ) → v < 64 → ((x : ℕ) → x < 64 → Reach w x (depth_at old x)) → Entry w old v d via → Reach w v d
  reach_entry old v d None hv all e = subst (Reach w v) (sym e) (all v hv)
  reach_entry old v d (Some p) hv all e =
      let r = all (place_of w p).from (from_in w p e.0) in
      let ps = r.walk in
      record {
        source = r.source;
        walk = ps ++ p ∷ [];
        leads = leads_append (places_of w) ps (p ∷ []) r.source (place_of w p).from v r.leads (e.0, refl, e.1);
        sum = omega (
          arith,
          r.sum,
          e.3,
          ap (λ h. w.target.b * h) (tokens_append (places_of w) ps (p ∷ [])),
          mul-add w.target.b (tokens_on (places_of w) ps) ((place_of w p).tokens + 0),
          mul-add w.target.b (place_of w p).tokens 0,
          mul-zero w.target.b,
          ap (λ h. w.target.a * h) (length_push ps p),
          mul-add w.target.a (length ps) 1,
          mul-one w.target.a,
        );
      }

  -- each value is the weight of a walk
  reach : (ls : List Level) (k : ℕ) → Rounds w ls k → (j : ℕ) → j ≤ k → (v : ℕ) → v < 64 → Reach w v (depth_at (level ls j) v)
  reach ls k rs zero h v hv = record { source = v; walk = []; leads = refl; sum = omega (arith, ap depth (rs.flat v hv), mul-zero w.target.a, mul-zero w.target.b) }
  reach ls k rs (suc j) h v hv = reach_entry (level ls j) v _ _ hv (reach ls k rs j (omega arith)) ((rs.rounds j (suc j) refl h).entries v hv)

  -- no place offers less than the level l has
  Still : Level → Type 0
  Still l = (p : ℕ) → p < length (places_of w) → depth_at l (place_of w p).from + w.target.a ≤ depth_at l (place_of w p).to + w.target.b * (place_of w p).tokens

  -- a round that lowers nothing shows that the level is still
  still : (l next : Level) → Relaxed w (length (places_of w)) l next → ((v : ℕ) → v < w.graph.modules → via_at next v ≡ None) → Still l
  unfolding Still
  still l next r none p h =
      let z = (place_of w p).to in
      let inside = w.graph.ends p h in
      let same = subst (Entry w l z (depth_at next z)) (none z inside) (r.entries z (omega (arith, inside, w.graph.some))) in
      omega (arith, same, r.covered p h)

  -- along a walk no more is gained than it weighs
  along : (l : Level) → Still l → (ps : List ℕ) (u v : ℕ) → Leads (places_of w) u ps v → depth_at l u + w.target.a * length ps ≤ depth_at l v + w.target.b * tokens_on (places_of w) ps
  unfolding Still
  along l s [] u v e = omega (arith, ap (depth_at l) e, mul-zero w.target.a, mul-zero w.target.b)
  along l s (p ∷ ps) u v e =
      omega (arith, s p e.0, ap (depth_at l) e.1, along l s ps (place_of w p).to v e.2, mul-add w.target.b (place_of w p).tokens (tokens_on (places_of w) ps), mul-suc w.target.a (length ps))

  -- the answer where a round lowers nothing
  pub settled : (ls : List Level) (k : ℕ) (next : Level) (before after : List ℤ) → Rounds w ls k
      → k < w.graph.modules
      → Relaxed w (length (places_of w)) (level ls k) next → ((v : ℕ) → v < w.graph.modules → via_at next v ≡ None)
      → ((v : ℕ) → v < w.graph.modules → get_or after v (pos 0) ≡ value (level ls k) v)
      → ((v : ℕ) → w.graph.modules ≤ v → get_or after v (pos 0) ≡ get_or before v (pos 0))
      → Settled w.graph.modules w.target.a w.target.b (places_of w) before after
  settled ls k next before after rs hk r none written kept = record {
    reaches = λ ps c. omega (arith, along l quiet ps c.hub c.hub c.closed);
    potentials = λ v hv.
        let walk = reach ls k rs k (omega arith) v (omega (arith, w.graph.some)) in
        record {
          source = walk.source;
          walk = walk.walk;
          leads = walk.leads;
          reached = omega (arith, ints, is v hv, walk.sum, weights_is w.target.a w.target.b (places_of w) walk.walk);
          bound = λ u ps e. omega (arith, ints, is v hv, along l quiet ps u v e, weights_is w.target.a w.target.b (places_of w) ps);
        };
    range = λ v hv.
        let v_in : v < 64 = omega (arith, w.graph.some) in
        let most : w.target.a * k ≤ w.target.a * (w.graph.modules - 1) = mul-le-mul_left w.target.a (let h : k ≤ w.graph.modules - 1 = omega arith in h) in
        (omega (arith, ints, is v hv, lows w ls k rs k (omega arith) v v_in, most), omega (arith, ints, is v hv));
    kept = kept;
  }
    where
      l : Level
      l = level ls k

      quiet : Still l
      quiet = still l next r none

      is : (v : ℕ) → v < w.graph.modules → get_or after v (pos 0) ≡ neg_ℤ (pos (depth_at l v))
      is v hv = written v hv ∙ by_depth (value l v) (under w ls k rs k (omega arith) v (omega (arith, w.graph.some)))
