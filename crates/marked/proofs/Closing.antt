-- The cycle that the way back closes. Assumes nothing.
use Rattle.std.proofs.Common.{◌≡◌, ℕ, suc, ◌+◌, ◌-◌, ◌*◌, ◌<◌, ◌≤◌, ◌⊎◌, List, ◌++◌, length, get_or, take, drop, sym, refl, ap, ◌∙◌, subst, inl, inr, ⊎_elim, mul-add, arith, length-append, length-drop, length-take-le, get_or-drop, get_or-take, take-add}
use Rattle.std.proofs.lemmas.Bool.{cases_eq, cases_lt}
use Rattle.marked.specs.declared.weighed.Weighed.{Weighed}
use Rattle.marked.specs.declared.level.Level.{Level}
use Rattle.marked.specs.declared.trail.Trail.{Trail}
use Rattle.marked.specs.Graphs.{start, Leads, tokens_on, Cycle, Simple, Slow, LowestFirst}
use Rattle.marked.specs.Answers.{Found}
use Rattle.marked.specs.Rounds.{places_of, place_of, depth_at, level, Rounds, stop, taken, Back, Apart}
use Rattle.marked.proofs.Falls.{falling, lowered_deeper}
use Rattle.marked.proofs.Back.{chain}
use Rattle.marked.proofs.Walks.{leads_append, tokens_append}

-- the trail meets at level j the module of level k; level m between them has the lowest module, and the list has the
-- places above m, and then those up to m
module _ (w : Weighed) (ls : List Level) (k m j : ℕ) (t : Trail) (rs : Rounds w ls t.peak) (high : t.peak ≤ w.graph.modules)
    (bk : Back w ls k t) (apart : Apart (suc k) t)
    (hk : k ≤ m) (hm : m < j) (hj : j ≤ t.peak) (same : stop t k ≡ stop t j)
    (least : (i : ℕ) → k ≤ i → i < j → stop t m ≤ stop t i)
    (after : List ℕ) (room : w.graph.modules ≤ length after)
    (first : (i : ℕ) → i < j - m → get_or after i 0 ≡ taken t (suc (m + i)))
    (second : (i : ℕ) → i < m - k → get_or after (j - m + i) 0 ≡ taken t (suc (k + i))) where
  front : List ℕ
  front = take (j - m) after

  back : List ℕ
  back = take (m - k) (drop (j - m) after)

  all : List ℕ
  all = take (j - k) after

  two_parts : front ++ back ≡ all
  unfolding front back all
  two_parts = sym (take-add (j - m) (m - k) after) ∙ ap (λ x. take x after) (omega arith)

  front_length : length front ≡ j - m
  unfolding front
  front_length = length-take-le (j - m) after (omega arith)

  back_length : length back ≡ m - k
  unfolding back
  back_length = length-take-le (m - k) (drop (j - m) after) (omega (arith, length-drop (j - m) after))

  all_length : length all ≡ j - k
  unfolding all
  all_length = length-take-le (j - k) after (omega arith)

  upper : Leads (places_of w) (stop t m) front (stop t j) × (depth_at (level ls j) (stop t j) + w.target.b * tokens_on (places_of w) front ≡ depth_at (level ls m) (stop t m) + w.target.a * length front)
  unfolding front
  upper =
      chain w ls t.peak rs k t bk front m j hk (omega (arith, front_length)) hj
      (λ i h. let lt : i < j - m = omega (arith, front_length) in get_or-take (j - m) after i 0 lt ∙ first i lt)

  lower : Leads (places_of w) (stop t k) back (stop t m) × (depth_at (level ls m) (stop t m) + w.target.b * tokens_on (places_of w) back ≡ depth_at (level ls k) (stop t k) + w.target.a * length back)
  unfolding back
  lower =
      chain w ls t.peak rs k t bk back k m (omega arith) (omega (arith, back_length)) (omega arith)
      (λ i h.
      let lt : i < m - k = omega (arith, back_length) in
      get_or-take (m - k) (drop (j - m) after) i 0 lt ∙ get_or-drop (j - m) after i 0 ∙ second i lt)

  is_cycle : Cycle (places_of w) (front ++ back)
  is_cycle = record {
    some = omega (arith, length-append front back, front_length);
    hub = stop t m;
    closed = leads_append (places_of w) front back (stop t m) (stop t j) (stop t m) upper.0 (subst (λ x. Leads (places_of w) x back (stop t m)) same lower.0);
  }

  is_slow : Slow w.target.a w.target.b (places_of w) (front ++ back)
  is_slow =
      let x_in : stop t j < 64 = omega (arith, bk.inside j (omega arith) hj, w.graph.some) in
      let before : j ≡ suc (j - 1) = omega arith in
      let deeper = lowered_deeper w (level ls (j - 1)) (stop t j) _ _ ((rs.rounds (j - 1) j before hj).entries (stop t j) x_in) (bk.lowered j (omega arith) hj (omega arith)) in
      let down = falling w ls t.peak rs (j - 1 - k) k (j - 1) (stop t j) (omega arith) (omega arith) x_in in
      omega (
        arith,
        upper.1,
        lower.1,
        deeper,
        down,
        ap (depth_at (level ls k)) same,
        ap (λ x. w.target.b * x) (tokens_append (places_of w) front back),
        mul-add w.target.b (tokens_on (places_of w) front) (tokens_on (places_of w) back),
        ap (λ x. w.target.a * x) (length-append front back),
        mul-add w.target.a (length front) (length back),
      )

  -- the level where the place i of the list starts
  record Starts (i : ℕ) : Type 0 where
    at_level : ℕ
    above : k ≤ at_level
    below : at_level < j
    is : start (places_of w) all i ≡ stop t at_level
    kind : ((i < j - m) × (at_level ≡ m + i)) ⊎ ((j - m ≤ i) × (at_level + (j - m) ≡ k + i))

  starts : (i : ℕ) → i < j - k → Starts i
  unfolding all
  starts i h =
      let read = get_or-take (j - k) after i 0 h in
      ⊎_elim
      (λ lt. record {
        at_level = m + i;
        above = omega arith;
        below = omega arith;
        is = ap (λ p. (place_of w p).from) (read ∙ first i lt) ∙ (bk.steps (m + i) (suc (m + i)) refl (omega arith) (omega arith)).leaves;
        kind = inl (lt, refl);
      })
      (λ ge.
      let d = i - (j - m) in
      let e : i ≡ j - m + d = omega arith in
      record {
        at_level = k + d;
        above = omega arith;
        below = omega arith;
        is = ap (λ p. (place_of w p).from) (read ∙ ap (λ x. get_or after x 0) e ∙ second d (omega arith)) ∙ (bk.steps (k + d) (suc (k + d)) refl (omega arith) (omega arith)).leaves;
        kind = inr (ge, omega arith);
      })
      (cases_lt i (j - m))

  -- below j, where the module of level k comes again, no module comes twice
  once : (x y : ℕ) → k ≤ x → x < y → y < j → stop t x ≡ stop t y → ⊥
  once x y hx lt hy met =
      ⊎_elim
      (λ e. apart y j (omega arith) hy hj (sym met ∙ ap (stop t) e ∙ same))
      (λ ne. apart x y (omega (arith, ne)) lt (omega arith) met)
      (cases_eq x k)

  is_simple : Simple (places_of w) all
  is_simple i i' lt h twice =
      let s = starts i (omega (arith, all_length)) in
      let s' = starts i' (omega (arith, all_length)) in
      let met : stop t s.at_level ≡ stop t s'.at_level = sym s.is ∙ twice ∙ s'.is in
      ⊎_elim
      (λ l. once s.at_level s'.at_level s.above l s'.below met)
      (λ ge.
      once s'.at_level s.at_level s'.above (omega (arith, s.kind, s'.kind, all_length)) s.below (sym met))
      (cases_lt s.at_level s'.at_level)

  is_lowest_first : LowestFirst (places_of w) all
  is_lowest_first i h =
      let s = starts 0 (omega (arith, all_length)) in
      let s' = starts i (omega (arith, all_length)) in
      let here : s.at_level ≡ m = omega (arith, s.kind) in
      omega (arith, s.is, s'.is, ap (stop t) here, least s'.at_level s'.above s'.below)

  -- the answer where the way back closes a cycle
  pub closing : (before : List ℕ) → ((i : ℕ) → j - k ≤ i → get_or after i 0 ≡ get_or before i 0) → Found w.graph.modules w.target.a w.target.b (places_of w) before after (j - k)
  unfolding all
  closing before kept = record {
    cycle = subst (Cycle (places_of w)) two_parts is_cycle;
    simple = is_simple;
    slow = subst (Slow w.target.a w.target.b (places_of w)) two_parts is_slow;
    lowest_first = is_lowest_first;
    short = omega arith;
    kept = kept;
  }
