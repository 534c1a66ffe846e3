-- Channels that lead from module to module can be cut so that none is passed twice, and are then fewer than the modules. Assumes nothing.
use Rattle.std.proofs.Common.{◌≡◌, ℕ, zero, suc, ◌<◌, ◌≤◌, ◌⊎◌, List, [], ◌∷◌, ◌++◌, length, sym, refl, subst, inl, inr, ⊎_elim, arith}
use Rattle.std.proofs.ByRecursion.{All-weaker}
use Rattle.std.proofs.lemmas.Bool.{cases_eq}
use Rattle.std.specs.Int.{IsInRange}
use Rattle.std.specs.List.{AllByRecursion}
use Rattle.checking.specs.Nets.{Leads}

-- x is none of the numbers
abbrev Absent : ℕ → List ℕ → Type 0
Absent x xs = AllByRecursion (λ y. x ≡ y → ⊥) xs

-- the numbers are all different
abbrev Distinct : List ℕ → Type 0
Distinct [] = Unit {0}
Distinct (x ∷ xs) = Absent x xs × Distinct xs

-- the numbers without the highest that is allowed
record Lower (m : ℕ) (xs : List ℕ) : Type 0 where
  rest : List ℕ
  distinct : Distinct rest
  within : AllByRecursion (IsInRange 1 m) rest
  one_less : length xs ≤ suc (length rest)
  absent : (z : ℕ) → Absent z xs → Absent z rest

under : (m : ℕ) (xs : List ℕ) → Absent (suc m) xs → AllByRecursion (IsInRange 1 (suc m)) xs → AllByRecursion (IsInRange 1 m) xs
under m [] none all = tt
under m (x ∷ xs) none all = ((all.0.0, omega (arith, none.0, all.0.1)), under m xs none.1 all.1)

lower : (m : ℕ) (xs : List ℕ) → Distinct xs → AllByRecursion (IsInRange 1 (suc m)) xs → Lower m xs
lower m [] d all = record { rest = []; distinct = tt; within = tt; one_less = omega arith; absent = λ z h. tt }
lower m (x ∷ xs) d all =
    ⊎_elim
    (λ (top : x ≡ suc m). record {
      rest = xs;
      distinct = d.1;
      within = under m xs (rw top at d.0) all.1;
      one_less = omega arith;
      absent = λ z h. h.1;
    })
    (λ (ne : x ≡ suc m → ⊥).
    let l = lower m xs d.1 all.1 in
    record {
      rest = x ∷ l.rest;
      distinct = (l.absent x d.0, l.distinct);
      within = ((all.0.0, omega (arith, ne, all.0.1)), l.within);
      one_less = omega (arith, l.one_less);
      absent = λ z h. (h.0, l.absent z h.1);
    })
    (cases_eq x (suc m))

-- different numbers from 1 to m are at most m
pigeons : (m : ℕ) (xs : List ℕ) → Distinct xs → AllByRecursion (IsInRange 1 m) xs → length xs ≤ m
pigeons zero [] d all = omega arith
pigeons zero (x ∷ xs) d all = absurd (omega (arith, all.0.0, all.0.1))
pigeons (suc m) xs d all = let l = lower m xs d all in omega (arith, l.one_less, pigeons m l.rest l.distinct l.within)

module _ (Step : ℕ → ℕ → ℕ → Type 0) where
  pub leads_append : (es ds : List ℕ) (u v w : ℕ) → Leads Step u es v → Leads Step v ds w → Leads Step u (es ++ ds) w
  leads_append [] ds u v w l r = subst (λ x. Leads Step x ds w) (sym l) r
  leads_append (e ∷ es) ds u v w l r = (l.0, l.1, leads_append es ds l.0 v w l.2 r)

  -- where each step can be taken back, so can all of them
  pub leads_back : ((e u v : ℕ) → Step e u v → Step e v u) → (es : List ℕ) (u v : ℕ) → Leads Step u es v → (ds : List ℕ) × Leads Step v ds u
  leads_back turn [] u v l = ([], sym l)
  leads_back turn (e ∷ es) u v l =
      let r = leads_back turn es l.0 v l.2 in
      (r.0 ++ e ∷ [], leads_append r.0 (e ∷ []) v l.0 u r.1 (u, turn e u l.0 l.1, refl))

  -- the modules that are passed, with both ends
  abbrev stops : (es : List ℕ) (u v : ℕ) → Leads Step u es v → List ℕ
  stops [] u v l = u ∷ []
  stops (e ∷ es) u v l = u ∷ stops es l.0 v l.2

  length_stops : (es : List ℕ) (u v : ℕ) (l : Leads Step u es v) → length (stops es u v l) ≡ suc (length es)
  length_stops [] u v l = refl
  length_stops (e ∷ es) u v l = rw (length_stops es l.0 v l.2)

  -- channels that lead from u to v and pass no module twice
  record Simple (m u v : ℕ) : Type 0 where
    es : List ℕ
    leads : Leads Step u es v
    distinct : Distinct (stops es u v leads)
    within : AllByRecursion (IsInRange 1 m) (stops es u v leads)

  -- x is not passed, or one may start from it
  from_stop : (m x : ℕ) (es : List ℕ) (u v : ℕ) (l : Leads Step u es v) → Distinct (stops es u v l) → AllByRecursion (IsInRange 1 m) (stops es u v l) → Absent x (stops es u v l) ⊎ Simple m x v
  from_stop m x [] u v l d all =
      ⊎_elim
      (λ (e : x ≡ u). inr (subst (λ y. Simple m y v) (sym e) (record { es = []; leads = l; distinct = d; within = all })))
      (λ ne. inl (ne, tt))
      (cases_eq x u)
  from_stop m x (e ∷ es) u v l d all =
      ⊎_elim
      (λ (same : x ≡ u). inr (subst (λ y. Simple m y v) (sym same) (record { es = e ∷ es; leads = l; distinct = d; within = all })))
      (λ ne. ⊎_elim (λ none. inl (ne, none)) (λ s. inr s) (from_stop m x es l.0 v l.2 d.1 all.1))
      (cases_eq x u)

  module _ (m : ℕ) (ends : (e u v : ℕ) → Step e u v → IsInRange 1 m v) where
    simple : (es : List ℕ) (u v : ℕ) → IsInRange 1 m u → Leads Step u es v → Simple m u v
    simple [] u v h l = record { es = []; leads = l; distinct = (tt, tt); within = (h, tt) }
    simple (e ∷ es) u v h l =
        let s = simple es l.0 v (ends e u l.0 l.1) l.2 in
        ⊎_elim
        (λ none. record { es = e ∷ s.es; leads = (l.0, l.1, s.leads); distinct = (none, s.distinct); within = (h, s.within) })
        (λ t. t)
        (from_stop m u s.es l.0 v s.leads s.distinct s.within)

    -- fewer channels than modules are enough
    pub cut : (es : List ℕ) (u v : ℕ) → IsInRange 1 m u → Leads Step u es v → (ds : List ℕ) × (length ds < m) × Leads Step u ds v
    cut es u v h l =
        let s = simple es u v h l in
        (s.es, omega (arith, length_stops s.es u v s.leads, pigeons m (stops s.es u v s.leads) s.distinct s.within), s.leads)

    passed_within : (es : List ℕ) (u v : ℕ) → IsInRange 1 m u → (l : Leads Step u es v) → AllByRecursion (IsInRange 1 m) (stops es u v l)
    passed_within [] u v h l = (h, tt)
    passed_within (e ∷ es) u v h l = (h, passed_within es l.0 v (ends e u l.0 l.1) l.2)

    module _ (no_ring : (v : ℕ) (es : List ℕ) → 0 < length es → Leads Step v es v → ⊥) where
      -- a first part of the channels leads to each module that is passed
      led_to : (es : List ℕ) (u v : ℕ) (l : Leads Step u es v) → AllByRecursion (λ x. (ds : List ℕ) × Leads Step u ds x) (stops es u v l)
      led_to [] u v l = (([], refl), tt)
      led_to (e ∷ es) u v l = (
        ([], refl),
        All-weaker (λ x. (ds : List ℕ) × Leads Step l.0 ds x) (λ x. (ds : List ℕ) × Leads Step u ds x)
            (λ x p. (e ∷ p.0, (l.0, l.1, p.1))) (stops es l.0 v l.2) (led_to es l.0 v l.2),
      )

      passed_once : (es : List ℕ) (u v : ℕ) (l : Leads Step u es v) → Distinct (stops es u v l)
      passed_once [] u v l = (tt, tt)
      passed_once (e ∷ es) u v l = (
        All-weaker (λ x. (ds : List ℕ) × Leads Step l.0 ds x) (λ x. u ≡ x → ⊥)
            (λ x p same. no_ring u (e ∷ p.0) (omega arith) (l.0, l.1, subst (λ y. Leads Step l.0 p.0 y) (sym same) p.1))
            (stops es l.0 v l.2) (led_to es l.0 v l.2),
        passed_once es l.0 v l.2,
      )

      -- where nothing leads back to where it came from, channels that lead on are fewer than the modules
      pub few : (es : List ℕ) (u v : ℕ) → IsInRange 1 m u → Leads Step u es v → length es < m
      few es u v h l = omega (arith, length_stops es u v l, pigeons m (stops es u v l) (passed_once es u v l) (passed_within es u v h l))
