-- A round on the least-total scale is a free step. Assumes nothing.
use Rattle.std.proofs.Common.{◌≡◌, ℕ, zero, suc, ◌+◌, ◌-◌, ◌^◌, ◌<◌, ◌≤◌, min, false, ◌⊎◌, List, map, length, replicate, sym, refl, ap, ◌∙◌, inl, inr, add-one, arith}
use Rattle.std.proofs.lemmas.List.FromFn.{get_or-map-range_with_len, length-map-range_with_len}
use Rattle.std.proofs.lemmas.Bool.{cases_eq, cases_lt}
use Rattle.std.specs.List.{range_with_len}
use Rattle.firing.specs.Firings.{firings, free, holding, step}
use Rattle.firing.specs.Theorems.{Least}
use Rattle.firing.proofs.Steps.{grows, least, safety}
use Rattle.marked.specs.declared.place.Place.{Place}
use Rattle.marked.specs.Graphs.{at}
use Rattle.marked.specs.Limits.{Starts}
use Rattle.scale.specs.Arrivals.{arrival, brought}
use Rattle.scale.specs.Counts.{choices, element, over_walks, weight}
use Rattle.scale.specs.LeastTotal.{least_total}
use Rattle.scale.specs.declared.elements.Total.{Total}
use Rattle.scale.proofs.Choices.{over_next, over_none}
use Rattle.forecasting.specs.Weights.{Unfired, Weights}

-- the choice over the numbers from a to a + m is no more than any of them
chosen_le : (f : ℕ → Total) (a m u : ℕ) → a ≤ u → u < a + m → (choices least_total (map f (range_with_len a m))).sum ≤ (f u).sum
chosen_le f a zero u low high = absurd (omega arith)
chosen_le f a (suc m) u low high =
    elim (cases_eq u a) [
      | inl e ↦ rw e (omega arith)
      | inr ne ↦ omega (arith, chosen_le f (a + 1) m u (omega (arith, ne)) (omega arith))
    ]

-- and it is one of them, or no way
chosen : (f : ℕ → Total) (a m : ℕ) →
    ((choices least_total (map f (range_with_len a m))).sum ≡ 2 ^ 32 - 1) ⊎ ((u : ℕ) × (a ≤ u) × (u < a + m) × ((choices least_total (map f (range_with_len a m))).sum ≡ (f u).sum))
chosen f a zero = inl refl
chosen f a (suc m) =
    elim (cases_lt (f a).sum (choices least_total (map f (range_with_len (a + 1) m))).sum) [
      | inl less ↦ inr (a, omega arith, omega arith, omega arith)
      | inr le ↦ elim (chosen f (a + 1) m) [
        | inl none ↦ inl (omega (arith, none))
        | inr some ↦ inr (some.0, omega (arith, some.1), omega (arith, some.2), omega (arith, some.3))
      ]
    ]

-- no module is held in a free step
none_held : holding free ≡ false
unfolding holding
none_held = refl

-- no module fires more often than there are steps
fired_le : (G : List Place) (k v : ℕ) → firings G (replicate k free) v ≤ k
unfolding firings
fired_le G zero v = omega arith
fired_le G (suc k) v = omega (arith, (grows G free (firings G (replicate k free)) v).1, fired_le G k v)

module _ (G : List Place) (es ws : List Total) (starts : Starts (length es) G) (unfired : Unfired es) (weights : Weights G (length es) ws) where
  abbrev fired : ℕ → ℕ → ℕ
  fired k = firings G (replicate k free)

  -- the totals that k rounds leave, and those as a list
  abbrev total : ℕ → ℕ → Total
  total k = over_walks least_total es ws k

  abbrev totals : ℕ → List Total
  totals k = map (total k) (range_with_len 0 (length es))

  long : (k : ℕ) → length (totals k) ≡ length es
  long k = length-map-range_with_len (total k) 0 (length es)

  listed : (k u : ℕ) → u < length es → element least_total (totals k) u ≡ total k u
  listed k u l = get_or-map-range_with_len (total k) 0 (length es) u u least_total.no_way l (omega arith)

  -- one round more: the least, over the modules, of what the move from there brings
  round_more : (k v : ℕ) → total (k + 1) v ≡ arrival least_total (totals k) ws v
  round_more k v = sym (over_next least_total es ws (totals k) k v (long k) (listed k))

  module _ (k v : ℕ) (v_in : v < length es) (told : (u : ℕ) → u < length es → (total k u).sum ≡ fired k u) (few : k + 1 < 2 ^ 32 - 1) where
    abbrev came : ℕ
    came = (arrival least_total (totals k) ws v).sum

    -- the firings there plus the weight of the move, or no way
    brings : (u : ℕ) → u < length es → (brought least_total (totals k) ws v u).sum ≡ min (fired k u + (weight least_total ws (length es) u v).sum) (2 ^ 32 - 1)
    brings u l = rw (long k, listed k u l, told u l) refl

    came_le : (u : ℕ) → u < length es → came ≤ fired k u + (weight least_total ws (length es) u v).sum
    came_le u l = omega (arith, chosen_le (brought least_total (totals k) ws v) 0 (length (totals k)) u (omega arith) (omega (arith, long k)), brings u l)

    takes : Least G (fired k) v (step G free (fired k) v)
    takes = least G (fired k) (safety G (replicate k free)) free none_held v

    -- no more comes than the step takes the module to
    at_most : came ≤ step G free (fired k) v
    at_most =
        elim takes.reached [
          | inl one ↦ omega (arith, one, came_le v v_in, (weights v v v_in v_in).stays refl)
          | inr p ↦
              let from_in = starts p.0 p.1 in
              omega (arith, p.3, came_le (at G p.0).from from_in, (weights (at G p.0).from v from_in v_in).bound p.0 (p.1, refl, p.2))
        ]

    -- nor does less
    at_least : step G free (fired k) v ≤ came
    at_least =
        elim (chosen (brought least_total (totals k) ws v) 0 (length (totals k))) [
          | inl none ↦ omega (arith, none, (grows G free (fired k) v).1, fired_le G k v)
          | inr some ↦
              let u = some.0 in
              let u_in : u < length es = omega (arith, some.2, long k) in
              let is = brings u u_in in
              elim (weights u v u_in v_in).reached [
                | inl shut ↦ omega (arith, some.3, is, shut, (grows G free (fired k) v).1, fired_le G k v)
                | inr way ↦ elim way [
                  | inl stay ↦ omega (arith, some.3, is, stay.1, ap (fired k) stay.0, takes.one_more, fired_le G k v)
                  | inr p ↦ omega (arith, some.3, is, p.2, ap (fired k) p.1.1, takes.bound p.0 p.1.0 p.1.2, (grows G free (fired k) v).1, fired_le G k v)
                ]
              ]
        ]

  -- so k rounds leave the firings after k free steps
  pub rounds_fire : (k v : ℕ) → k < 2 ^ 32 - 1 → v < length es → (total k v).sum ≡ fired k v
  unfolding firings
  rounds_fire zero v few l = ap (λ (t : Total). t.sum) (sym (over_none least_total es ws v)) ∙ unfired v l
  rounds_fire (suc k) v few l =
      let told : (u : ℕ) → u < length es → (total k u).sum ≡ fired k u = λ u m. rounds_fire k u (omega arith) m in
      let more : (total (suc k) v).sum ≡ (arrival least_total (totals k) ws v).sum = ap (λ (t : Total). t.sum) (rw add-one at (round_more k v)) in
      omega (arith, more, at_most k v l told (omega arith), at_least k v l told (omega arith))
