-- The way back through the levels. Assumes nothing.
use Rattle.std.proofs.Common.{◌≡◌, ℕ, suc, ◌+◌, ◌-◌, ◌*◌, ◌<◌, ◌≤◌, ◌≢◌, List, [], ◌∷◌, length, get_or, set, replicate, Some, sym, refl, ap, ◌∙◌, subst, subst₂, ⊎_elim, add-zero, mul-zero, mul-suc, mul-add, arith, length-set, get_or-set_other, get_or-set_same}
use mathlib.Core.Path.{subst₃}
use Rattle.std.proofs.lemmas.List.{get_or-replicate}
use Rattle.std.proofs.lemmas.Bool.{cases_eq, cases_lt}
use Rattle.marked.specs.declared.weighed.Weighed.{Weighed}
use Rattle.marked.specs.declared.level.Level.{Level}
use Rattle.marked.specs.declared.trail.Stop.{Stop}
use Rattle.marked.specs.declared.trail.Trail.{Trail}
use Rattle.marked.specs.Graphs.{Leads, tokens_on}
use Rattle.marked.specs.Rounds.{places_of, place_of, depth_at, via_at, Entry, level, Rounds, Lowered, Step, nowhere, stop, taken, Back, Apart}
use Rattle.marked.proofs.Falls.{earlier}
use Rattle.marked.proofs.Writes.{set_here}

module _ (w : Weighed) (ls : List Level) (peak : ℕ) (rs : Rounds w ls peak) where
  -- what the entry of a module says of the place p that lowered it at level k
  pub lowered_by : (k' k y p : ℕ) → k ≡ suc k' → k ≤ peak → y < w.graph.modules → via_at (level ls k) y ≡ Some p
      → Entry w (level ls k') y (depth_at (level ls k) y) (Some p)
  lowered_by k' k y p e h hy is =
      subst (Entry w (level ls k') y (depth_at (level ls k) y)) is ((rs.rounds k' k e h).entries y (omega (arith, w.graph.some)))

  -- one more step back, from the trail t to the trail t'
  back_more : (k' k : ℕ) (t t' : Trail) (p : ℕ) → t.peak ≡ peak → t'.peak ≡ peak → k ≡ suc k' → k ≤ peak → Back w ls k t
      → via_at (level ls k) (stop t k) ≡ Some p
      → stop t' k' ≡ (place_of w p).from → taken t' k ≡ p
      → ((i : ℕ) → k' < i → stop t' i ≡ stop t i) → ((i : ℕ) → k < i → taken t' i ≡ taken t i)
      → Back w ls k' t'
  back_more k' k t t' p top top' e h bk is here there same_stop same_taken = record {
    inside = λ i hi ho.
        ⊎_elim
        (λ lt. omega (arith, same_stop i lt, bk.inside i (omega arith) (omega arith)))
        (λ ge. let ik : i ≡ k' = omega arith in omega (arith, ap (stop t') ik, here, w.graph.starts p entry.0))
        (cases_lt k' i);
    lowered = λ i hi ho some.
        ⊎_elim
        (λ lt. subst (Lowered (level ls i)) (sym (same_stop i lt)) (bk.lowered i (omega arith) (omega arith) some))
        (λ ge.
        let ik : i ≡ k' = omega arith in
        subst₂ (λ l x. Lowered l x) (ap (level ls) (sym ik)) (sym here ∙ ap (stop t') (sym ik))
        (earlier w ls peak rs (k' - 1) k' k (stop t k) p (omega arith) e h entry))
        (cases_lt k' i);
    steps = λ i j ej hi hj.
        ⊎_elim
        (λ lt.
        subst₃ (Step w (level ls i) (level ls j)) (sym (same_stop i lt)) (sym (same_stop j (omega arith))) (sym (same_taken j (omega arith)))
        (bk.steps i j ej (omega arith) (omega arith)))
        (λ ge.
        let ik : k' ≡ i = omega arith in
        let jk : k ≡ j = omega arith in
        subst₂ (λ x y. Step w (level ls x) (level ls y) (stop t' x) (stop t' y) (taken t' y)) ik jk
        (subst₃ (Step w (level ls k') (level ls k)) (sym here) (sym (same_stop k (omega arith))) (sym there)
        (record { inside = entry.0; leaves = refl; enters = entry.1; sinks = entry.3 })))
        (cases_lt k' i);
  }
    where
      entry : Entry w (level ls k') (stop t k) (depth_at (level ls k) (stop t k)) (Some p)
      entry = lowered_by k' k (stop t k) p e h (bk.inside k (omega arith) (omega arith)) is

  -- the places of the trail from level k to level j lead from module to module, and weigh what their depths differ by
  pub chain : (low : ℕ) (t : Trail) → Back w ls low t → (ps : List ℕ) (k j : ℕ) → low ≤ k → j ≡ k + length ps → j ≤ t.peak
      → ((i : ℕ) → i < length ps → get_or ps i 0 ≡ taken t (suc (k + i)))
      → Leads (places_of w) (stop t k) ps (stop t j)
      × (depth_at (level ls j) (stop t j) + w.target.b * tokens_on (places_of w) ps ≡ depth_at (level ls k) (stop t k) + w.target.a * length ps)
  chain low t bk [] k j hk e hj are =
      let same : k ≡ j = omega arith in
      (ap (stop t) same, omega (arith, ap (λ m. depth_at (level ls m) (stop t m)) same, mul-zero w.target.a, mul-zero w.target.b))
  chain low t bk (p ∷ ps) k j hk e hj are =
      let is : p ≡ taken t (suc k) = are 0 (omega arith) ∙ ap (λ m. taken t (suc m)) (add-zero k) in
      let s = subst (Step w (level ls k) (level ls (suc k)) (stop t k) (stop t (suc k))) (sym is) (bk.steps k (suc k) refl hk (omega arith)) in
      let rest = chain low t bk ps (suc k) j (omega arith) (omega arith) hj (λ i h. are (suc i) (omega arith) ∙ ap (λ m. taken t (suc m)) (omega arith)) in (
        (s.inside, s.leaves, subst (λ x. Leads (places_of w) x ps (stop t j)) (sym s.enters) rest.0),
        omega (arith, rest.1, s.sinks, mul-add w.target.b (place_of w p).tokens (tokens_on (places_of w) ps), mul-suc w.target.a (length ps)),
      )

-- what `step` writes: x is whatever place stood at level k
pub stepped : (w : Weighed) (ls : List Level) (k p x : ℕ) (t : Trail) (few : t.peak ≤ 64) → Rounds w ls t.peak → t.peak ≤ w.graph.modules
    → k < t.peak → length t.stops ≡ 65
    → Back w ls (k + 1) t → Apart (k + 1) t → via_at (level ls (k + 1)) (stop t (k + 1)) ≡ Some p
    → let t' : Trail = record { few = few; peak = t.peak; stops = set (set t.stops (k + 1) (record { passes = stop t (k + 1); place = p })) k (record { passes = (place_of w p).from; place = x }) } in
    Back w ls k t' × Apart (k + 1) t'
stepped w ls k p x t few rs high within long bk apart is = (
  back_more w ls t.peak rs k (k + 1) t t' p refl refl (omega arith) (omega arith) bk is
      (ap (λ s. s.passes) (get_or-set_same one k below nowhere (omega (arith, length-set t.stops (k + 1) above, w.graph.some))))
      (ap (λ s. s.place) (let ne : k + 1 ≢ k = omega arith in get_or-set_other one k (k + 1) below nowhere ne ∙ get_or-set_same t.stops (k + 1) above nowhere in_k))
      kept
      (λ i lt.
      let ne : i ≢ k = omega arith in
      let ne' : i ≢ k + 1 = omega arith in
      ap (λ s. s.place) (get_or-set_other one k i below nowhere ne ∙ get_or-set_other t.stops (k + 1) i above nowhere ne')),
  λ i j hi lt hj met. apart i j hi lt hj (sym (kept i (omega arith)) ∙ met ∙ kept j (omega arith)),
)
  where
    above : Stop
    above = record { passes = stop t (k + 1); place = p }

    below : Stop
    below = record { passes = (place_of w p).from; place = x }

    one : List Stop
    one = set t.stops (k + 1) above

    t' : Trail
    t' = record { few = few; peak = t.peak; stops = set one k below }

    in_k : k + 1 < length t.stops
    in_k = omega (arith, w.graph.some)

    kept : (i : ℕ) → k < i → stop t' i ≡ stop t i
    kept i lt =
        let ne : i ≢ k = omega arith in
        ap (λ s. s.passes) (get_or-set_other one k i below nowhere ne)
        ∙ ⊎_elim
        (λ e. ap (λ s. s.passes) (set_here t.stops (k + 1) i above nowhere e in_k) ∙ ap (stop t) (sym e))
        (λ ne'. ap (λ s. s.passes) (get_or-set_other t.stops (k + 1) i above nowhere ne'))
        (cases_eq i (k + 1))

-- the trail before the first step
pub setting_out : (w : Weighed) (ls : List Level) (peak top : ℕ) (few : peak ≤ 64) → top < w.graph.modules → Lowered (level ls peak) top
    → let t : Trail = record { few = few; peak = peak; stops = replicate 65 (record { passes = top; place = 0 }) } in Back w ls peak t × Apart peak t
setting_out w ls peak top few h low = (
  record {
    inside = λ i hi ho. omega (arith, is i (omega arith));
    lowered = λ i hi ho some. let e : peak ≡ i = omega arith in subst₂ (λ l x. Lowered l x) (ap (level ls) e) (sym (is i (omega arith))) low;
    steps = λ i j e hi hj. absurd (omega arith);
  },
  λ i j hi lt hj e. omega arith,
)
  where
    start : Stop
    start = record { passes = top; place = 0 }

    is : (i : ℕ) → i ≤ 64 → (get_or (replicate 65 start) i nowhere).passes ≡ top
    is i h = ap (λ s. s.passes) (get_or-replicate 65 i start nowhere (omega arith))
