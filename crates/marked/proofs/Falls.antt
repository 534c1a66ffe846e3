-- How the values fall from level to level. Assumes nothing.
use Rattle.std.proofs.Common.{◌≡◌, ℕ, zero, suc, ◌+◌, ◌*◌, ◌<◌, ◌≤◌, true, ◌≢◌, List, length, set, pos, ◌≤ℤ◌, is_some, Some, None, Option, sym, refl, ap, ◌∙◌, subst₂, ⊎_elim, mul-le-mul, mul-suc, arith, get_or-set_other, get_or-set_same}
use Rattle.std.proofs.lemmas.Int.{ints}
use Rattle.std.proofs.lemmas.Bool.{cases_eq, false≢true}
use Rattle.marked.specs.declared.weighed.Weighed.{Weighed}
use Rattle.marked.specs.declared.level.Level.{Level}
use Rattle.marked.specs.Rounds.{places_of, place_of, value, via_at, depth, depth_at, Entry, Relaxed, Low, level, blank, Rounds, Lowered}
use Rattle.marked.proofs.Depths.{by_depth}
use Rattle.marked.proofs.Relaxing.{entry_down, from_in}

-- a module's entry names a place exactly where its value fell
pub lowered_deeper : (w : Weighed) (old : Level) (v d : ℕ) (via : Option ℕ) → Entry w old v d via → is_some via ≡ true → depth_at old v < d
lowered_deeper w old v d None e s = absurd (false≢true s)
lowered_deeper w old v d (Some p) e s = e.2

deeper_lowered : (w : Weighed) (old : Level) (v d : ℕ) (via : Option ℕ) → Entry w old v d via → depth_at old v < d → is_some via ≡ true
deeper_lowered w old v d None e h = absurd (omega arith)
deeper_lowered w old v d (Some p) e h = refl

-- no place lowers what is none of the graph's modules
entry_beyond : (w : Weighed) (old : Level) (v d : ℕ) (via : Option ℕ) → w.graph.modules ≤ v → Entry w old v d via → via ≡ None
entry_beyond w old v d None hm e = refl
entry_beyond w old v d (Some p) hm e = absurd (omega (arith, w.graph.ends p e.0, e.1))

module _ (w : Weighed) (ls : List Level) (k : ℕ) (rs : Rounds w ls k) where
  -- a value at a level is no higher than at an earlier one
  pub falling : (d i j v : ℕ) → j ≡ i + d → j ≤ k → v < 64 → depth_at (level ls i) v ≤ depth_at (level ls j) v
  falling zero i j v e h hv = let same : i ≡ j = omega arith in omega (arith, ap (λ m. depth_at (level ls m) v) same)
  falling (suc d) i j v e h hv =
      omega (arith, falling d i (i + d) v refl (omega arith) hv, entry_down w (level ls (i + d)) v _ _ ((rs.rounds (i + d) j (omega arith) h).entries v hv))

  -- a place that lowers its end does so since its start was lowered one round earlier
  pub earlier : (g h i y p : ℕ) → h ≡ suc g → i ≡ suc h → i ≤ k
      → Entry w (level ls h) y (depth_at (level ls i) y) (Some p) → Lowered (level ls h) (place_of w p).from
  earlier g h i y p eh ei hi e =
      let r = rs.rounds g h eh (omega arith) in
      deeper_lowered w (level ls g) (place_of w p).from _ _ (r.entries (place_of w p).from (from_in w p e.0))
      (omega (arith, r.covered p e.0, e.2, e.3, ap (depth_at (level ls h)) e.1))

  -- one more place takes at most a off
  entry_lows : (j v d : ℕ) (via : Option ℕ) (old : Level) → v < 64 → ((x : ℕ) → x < 64 → depth_at old x ≤ w.target.a * j) → Entry w old v d via → d ≤ w.target.a * suc j
  entry_lows j v d None old hv low e = omega (arith, low v hv, mul-suc w.target.a j)
  entry_lows j v d (Some p) old hv low e = omega (arith, low (place_of w p).from (from_in w p e.0), e.3, mul-suc w.target.a j)

  -- a walk of j places weighs -a * j at the least
  pub lows : (j : ℕ) → j ≤ k → (v : ℕ) → v < 64 → depth_at (level ls j) v ≤ w.target.a * j
  lows zero h v hv = omega (arith, ap depth (rs.flat v hv))
  lows (suc j) h v hv = entry_lows j v _ _ (level ls j) hv (lows j (omega arith)) ((rs.rounds j (suc j) refl h).entries v hv)

  -- a round lowers none but the graph's modules
  pub none_beyond : ((v : ℕ) → v < 64 → via_at (level ls 0) v ≡ None) → (j : ℕ) → j ≤ k → (v : ℕ) → w.graph.modules ≤ v → v < 64 → via_at (level ls j) v ≡ None
  none_beyond start zero h v hm hv = start v hv
  none_beyond start (suc j) h v hm hv = entry_beyond w (level ls j) v _ _ hm ((rs.rounds j (suc j) refl h).entries v hv)

  -- no value is above 0
  pub under : (j : ℕ) → j ≤ k → (v : ℕ) → v < 64 → value (level ls j) v ≤ℤ pos 0
  under zero h v hv = omega (arith, ints, rs.flat v hv)
  under (suc j) h v hv = (rs.rounds j (suc j) refl h).under v hv

  -- so no sum with a value wraps
  pub low : (j : ℕ) → j ≤ k → j ≤ 64 → Low (level ls j)
  low j h few v hv =
      let bound : w.target.a * j ≤ 64 * 64 = mul-le-mul (let h : w.target.a ≤ 64 = omega (arith, w.target.proper, w.target.small) in h) few in
      (omega (arith, ints, by_depth (value (level ls j) v) (under j h v hv), lows j h v hv, bound), under j h v hv)

-- one more round
pub rounds_more : (w : Weighed) (ls : List Level) (k : ℕ) (next : Level) → k + 1 < length ls
    → Rounds w ls k → Relaxed w (length (places_of w)) (level ls k) next → Rounds w (set ls (k + 1) next) (k + 1)
rounds_more w ls k next h rs r = record {
  flat = λ v hv. ap (λ l. value l v) (other 0 (omega arith)) ∙ rs.flat v hv;
  rounds = λ i j ej hj.
      ⊎_elim
      (λ same.
      let ik : i ≡ k = omega arith in
      subst₂ (Relaxed w (length (places_of w))) (ap (level ls) (sym ik) ∙ sym (other i (omega arith))) (sym (ap (level (set ls m next)) same ∙ get_or-set_same ls m next blank h)) r)
      (λ ne. let lt : j < m = omega (arith, ne) in subst₂ (Relaxed w (length (places_of w))) (sym (other i (omega arith))) (sym (other j lt)) (rs.rounds i j ej (omega arith)))
      (cases_eq j m);
}
  where
    m : ℕ
    m = k + 1

    other : (i : ℕ) → i < m → level (set ls m next) i ≡ level ls i
    other i lt = let ne : i ≢ m = omega arith in get_or-set_other ls m i next blank ne
