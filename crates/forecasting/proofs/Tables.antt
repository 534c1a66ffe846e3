-- The table of weights, and the lists that the forecast fills. Assumes nothing.
use Rattle.std.proofs.Common.{◌≡◌, ℕ, zero, suc, Bool, true, ◌&&◌, eqb, [], ◌∷◌, ◌⊎◌, ◌+◌, ◌-◌, ◌*◌, ◌/◌, ◌%◌, ◌^◌, ◌<◌, ◌≤◌, min, List, length, get_or, refl, ◌∙◌, inl, inr, arith}
use Rattle.std.proofs.lemmas.Nat.{div-mul-add, mod-mul-add, mul-add-lt}
use Rattle.std.proofs.lemmas.Bool.{cases_Bool, cases_lt, and_from, and_parts, eq-eqb, eqb-true}
use Rattle.marked.specs.declared.place.Place.{Place}
use Rattle.marked.specs.Graphs.{at}
use Rattle.scale.specs.LeastTotal.{least_total}
use Rattle.scale.specs.declared.elements.Total.{Total}
use Rattle.forecasting.specs.Weights.{Lightest, PlaceFromTo, Weights, least_of}

-- an entry by its row and its column
pub table_filled : (G : List Place) (n : ℕ) (ws : List Total) (i : ℕ) → n * n ≤ i
    → ((k : ℕ) → k < i → Lightest G (length G) (k / n) (k % n) (get_or ws k least_total.no_way).sum) → Weights G n ws
table_filled G n ws i all filled u v hu hv =
    rw (div-mul-add u n v hv, mod-mul-add u n v hv) at (filled (u * n + v) (omega (arith, mul-add-lt u n v n hu hv)))

-- the least of d and the tokens of the places that lead from u to v
module _ (u v : ℕ) where
  abbrev leads : Place → Bool
  leads p = eqb p.from u && eqb p.to v

  least_start : (G : List Place) (d : ℕ) → least_of u v G d ≤ d
  least_start [] d = omega arith
  least_start (x ∷ G) d =
      elim (cases_Bool (leads x)) [
        | inl hit ↦ rw hit (omega (arith, least_start G (min d x.tokens)))
        | inr miss ↦ rw miss (least_start G d)
      ]

  least_bound : (G : List Place) (d p : ℕ) → PlaceFromTo G (length G) u v p → least_of u v G d ≤ (at G p).tokens
  least_bound [] d p h = absurd (omega (arith, h.0))
  least_bound (x ∷ G) d zero h =
      let hit : leads x ≡ true = and_from (eqb x.from u) (eqb x.to v) (eq-eqb x.from u h.1) (eq-eqb x.to v h.2) in
      rw hit (omega (arith, least_start G (min d x.tokens)))
  least_bound (x ∷ G) d (suc p) h =
      elim (cases_Bool (leads x)) [
        | inl hit ↦ rw hit (least_bound G (min d x.tokens) p (omega (arith, h.0), h.1, h.2))
        | inr miss ↦ rw miss (least_bound G d p (omega (arith, h.0), h.1, h.2))
      ]

  -- a place of the rest is one of them all
  one_more : (x : Place) (G : List Place) (r : ℕ) → ((p : ℕ) × PlaceFromTo G (length G) u v p × (r ≡ (at G p).tokens)) → (p : ℕ) × PlaceFromTo (x ∷ G) (length (x ∷ G)) u v p × (r ≡ (at (x ∷ G) p).tokens)
  one_more x G r place = (suc place.0, (omega (arith, place.1.0), place.1.1, place.1.2), place.2)

  least_reached : (G : List Place) (d : ℕ) → (least_of u v G d ≡ d) ⊎ ((p : ℕ) × PlaceFromTo G (length G) u v p × (least_of u v G d ≡ (at G p).tokens))
  least_reached [] d = inl refl
  least_reached (x ∷ G) d =
      elim (cases_Bool (leads x)) [
        | inl hit ↦ (
            let from = eqb-true x.from u (and_parts (eqb x.from u) (eqb x.to v) hit).0 in
            let to = eqb-true x.to v (and_parts (eqb x.from u) (eqb x.to v) hit).1 in
            rw hit (elim (least_reached G (min d x.tokens)) [
              | inl same ↦ elim (cases_lt x.tokens d) [
                | inl less ↦ inr (zero, (omega arith, from, to), omega (arith, same))
                | inr le ↦ inl (omega (arith, same))
              ]
              | inr place ↦ inr (one_more x G (least_of u v G (min d x.tokens)) place)
            ]))
        | inr miss ↦ rw miss (elim (least_reached G d) [
          | inl same ↦ inl same
          | inr place ↦ inr (one_more x G (least_of u v G d) place)
        ])
      ]

  -- to stay weighs 1, and there is no way to another module but by a place
  pub lightest_is : (G : List Place) (d : ℕ) → ((u ≡ v) × (d ≡ 1)) ⊎ ((u ≡ v → ⊥) × (d ≡ 2 ^ 32 - 1)) → Lightest G (length G) u v (least_of u v G d)
  lightest_is G d start = record {
    stays = λ e. elim start [
      | inl stay ↦ omega (arith, stay.1, least_start G d)
      | inr none ↦ absurd (none.0 e)
    ];
    bound = least_bound G d;
    reached = elim (least_reached G d) [
      | inr place ↦ inr (inr place)
      | inl same ↦ elim start [
        | inl stay ↦ inr (inl (stay.0, same ∙ stay.1))
        | inr none ↦ inl (same ∙ none.1)
      ]
    ];
  }
