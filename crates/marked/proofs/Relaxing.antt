-- What one relaxation keeps. Assumes nothing.
use Rattle.std.proofs.Common.{◌≡◌, ℕ, ◌+◌, ◌*◌, ◌<◌, ◌≤◌, length, ℤ, pos, ◌+ℤ◌, neg_ℤ, ◌≤ℤ◌, ◌<ℤ◌, ◌≢◌, Some, None, Option, sym, ap, ◌∙◌, subst, ⊎_elim, mul-le-mul, arith}
use Rattle.std.proofs.lemmas.Int.{ints, by_lt_z}
use Rattle.std.proofs.lemmas.Bool.{cases_eq, cases_lt}
use Rattle.marked.specs.declared.weighed.Weighed.{Weighed}
use Rattle.marked.specs.declared.level.Level.{Level}
use Rattle.marked.specs.Graphs.{weight}
use Rattle.marked.specs.Rounds.{places_of, place_of, arrival, value, depth, depth_at, via_at, Entry, Relaxed, Low}
use Rattle.marked.proofs.Depths.{by_depth}

-- the ends of a place are modules, of which there are at most 64
pub from_in : (w : Weighed) (p : ℕ) → p < length (places_of w) → (place_of w p).from < 64
from_in w p h = omega (arith, w.graph.starts p h, w.graph.some)

pub to_in : (w : Weighed) (p : ℕ) → p < length (places_of w) → (place_of w p).to < 64
to_in w p h = omega (arith, w.graph.ends p h, w.graph.some)

-- no module rises
pub entry_down : (w : Weighed) (old : Level) (v d : ℕ) (via : Option ℕ) → Entry w old v d via → depth_at old v ≤ d
entry_down w old v d None e = omega arith
entry_down w old v d (Some p) e = omega (arith, e.2)

-- the sum that a place offers does not wrap
pub offered : (w : Weighed) (old : Level) → Low old → (p : ℕ) → p < length (places_of w)
    → (w.target.b * (place_of w p).tokens ≤ 64 * 17) × (w.target.a ≤ 64) × (neg_ℤ (pos 4096) ≤ℤ value old (place_of w p).from) × (value old (place_of w p).from ≤ℤ pos 0)
offered w old low p h =
    let l = low _ (from_in w p h) in
    (mul-le-mul w.target.small (w.graph.light p h), omega (arith, w.target.proper, w.target.small), l.0, l.1)

-- the place i offers the value x to the module where it ends
module _ (w : Weighed) (old : Level) (low : Low old) (i : ℕ) (new new' : Level) (x : ℤ) (h : i < length (places_of w)) (r : Relaxed w i old new)
    (sum : x ≡ value old (place_of w i).from +ℤ weight w.target.a w.target.b (place_of w i))
    (other : (v : ℕ) → v ≢ (place_of w i).to → arrival new' v ≡ arrival new v) where
  abbrev pub z : ℕ
  z = (place_of w i).to

  z_in : z < 64
  z_in = to_in w i h

  -- less than it has: the place lowers it to x
  lower : x <ℤ value new z → arrival new' z ≡ record { value = x; via = Some i } → Relaxed w (i + 1) old new'
  lower less here = record {
    entries = λ v hv.
        ⊎_elim
        (λ e.
        subst (λ y. Entry w old v (depth y.value) y.via) (sym (ap (arrival new') e ∙ here))
        (h, sym e, omega (arith, ap (depth_at old) e, entry_down w old z _ _ (r.entries z z_in), deeper), sinks))
        (λ ne. subst (λ y. Entry w old v (depth y.value) y.via) (sym (other v ne)) (r.entries v hv))
        (cases_eq v z);
    under = λ v hv.
        ⊎_elim
        (λ e. subst (λ y. y.value ≤ℤ pos 0) (sym (ap (arrival new') e ∙ here)) x_under)
        (λ ne. subst (λ y. y.value ≤ℤ pos 0) (sym (other v ne)) (r.under v hv))
        (cases_eq v z);
    covered = λ p hp.
        ⊎_elim
        (λ lt. omega (arith, r.covered p lt, down (place_of w p).to))
        (λ ge.
        let e : p ≡ i = omega arith in
        subst (λ q. depth_at old (place_of w q).from + w.target.a ≤ depth_at new' (place_of w q).to + w.target.b * (place_of w q).tokens) (sym e)
        (omega (arith, ap (λ y. depth y.value) here, sinks)))
        (cases_lt p i);
  }
    where
      x_under : x ≤ℤ pos 0
      x_under = omega (arith, ints, less, r.under z z_in)

      deeper : depth_at new z < depth x
      deeper = omega (arith, ints, by_depth x x_under, by_depth (value new z) (r.under z z_in), less)

      sinks : depth x + w.target.b * (place_of w i).tokens ≡ depth_at old (place_of w i).from + w.target.a
      sinks = omega (arith, ints, by_depth x x_under, by_depth (value old (place_of w i).from) (low _ (from_in w i h)).1, sum)

      -- no module rises
      down : (v : ℕ) → depth_at new v ≤ depth_at new' v
      down v =
          ⊎_elim
          (λ e. omega (arith, ap (λ y. depth y.value) (ap (arrival new') e ∙ here), ap (depth_at new) e, deeper))
          (λ ne. omega (arith, ap (λ y. depth y.value) (other v ne)))
          (cases_eq v z)

  -- no less than it has: it is covered as it stands
  keep : value new z ≤ℤ x → arrival new' z ≡ arrival new z → Relaxed w (i + 1) old new'
  keep more here = record {
    entries = λ v hv. subst (λ y. Entry w old v (depth y.value) y.via) (sym (same v)) (r.entries v hv);
    under = λ v hv. subst (λ y. y.value ≤ℤ pos 0) (sym (same v)) (r.under v hv);
    covered = λ p hp.
        ⊎_elim
        (λ lt. omega (arith, r.covered p lt, ap (λ y. depth y.value) (same (place_of w p).to)))
        (λ ge.
        let e : p ≡ i = omega arith in
        subst (λ q. depth_at old (place_of w q).from + w.target.a ≤ depth_at new' (place_of w q).to + w.target.b * (place_of w q).tokens) (sym e)
        (omega (arith, ints, ap (λ y. depth y.value) here, by_depth (value new z) (r.under z z_in), by_depth (value old (place_of w i).from) (low _ (from_in w i h)).1, sum, more)))
        (cases_lt p i);
  }
    where
      same : (v : ℕ) → arrival new' v ≡ arrival new v
      same v = ⊎_elim (λ e. ap (arrival new') e ∙ here ∙ ap (arrival new) (sym e)) (other v) (cases_eq v z)

  -- one more place
  pub relaxed_more : (x <ℤ value new z → arrival new' z ≡ record { value = x; via = Some i }) → (value new z ≤ℤ x → arrival new' z ≡ arrival new z) → Relaxed w (i + 1) old new'
  relaxed_more less more = by_lt_z x (value new z) (λ lt. lower lt (less lt)) (λ ge. keep ge (more ge))

-- what a round starts with
pub unlowered : (w : Weighed) (old new : Level) → Low old → ((v : ℕ) → v < 64 → (value new v ≡ value old v) × (via_at new v ≡ None)) → Relaxed w 0 old new
unlowered w old new low same = record {
  entries = λ v h. subst (Entry w old v (depth_at new v)) (sym (same v h).1) (ap depth (same v h).0);
  under = λ v h. subst (λ y. y ≤ℤ pos 0) (sym (same v h).0) (low v h).1;
  covered = λ p h. absurd (omega arith);
}
