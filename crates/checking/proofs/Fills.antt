-- Lists of yes and no that loops fill, and numbers that loops go through. Assumes nothing.
use Rattle.std.proofs.Common.{◌≡◌, ℕ, ◌+◌, ◌-◌, ◌*◌, ◌/◌, ◌%◌, ◌<◌, ◌≤◌, Bool, true, false, ◌≢◌, List, [], ◌∷◌, length, get_or, set, replicate, Some, None, MatchOption, Option, vec_items, Decides, sym, ap, ◌∙◌, subst, ⊎_elim, arith, below_more}
use Rattle.std.proofs.lemmas.Nat.{div-mul-add, mod-mul-add, mul-add-lt}
use Rattle.std.proofs.lemmas.List.{get_or-replicate, get_or-set_other, get_or-set_same, length-replicate, length-set}
use Rattle.std.proofs.lemmas.Bool.{cases_eq, false≢true}
use Rattle.std.specs.Int.{IsInRange}
use Rattle.netlist.specs.declared.netlist.Module.{Module}
use Rattle.netlist.specs.declared.netlist.Netlist.{Netlist}
use Rattle.checking.specs.Links.{Finds, Move, Picks, Reached, Stepping, Table}
use Rattle.netlist.specs.Holds.{modules}
use Rattle.checking.specs.Nets.{Leads}

-- what a search for the lowest module finds, where the test decides
pub finds : (n : Netlist) (ms : List Module) (Good Bad : ℕ → Type 0) (Says : ℕ → Bool → Type 0) (r : Option ℕ) → ms ≡ vec_items n.modules → Picks (length ms) Says r
    → ((v : ℕ) → IsInRange 1 (modules n) v → Says v false → Good v) → ((v : ℕ) → IsInRange 1 (modules n) v → Says v true → Bad v) → ((v : ℕ) → Good v → Bad v → ⊥)
    → Finds (modules n) Good Bad r
finds n ms Good Bad Says r same picks good bad one = found r (rw long at picks.picked)
  where
    long : length ms ≡ modules n
    long = omega (arith, ap length same, n.modules.ok.0)

    found : (o : Option ℕ) → MatchOption o ((v : ℕ) → IsInRange 1 (modules n) v → Says v false) (λ v. IsInRange 1 (modules n) v × Says v true × ((u : ℕ) → IsInRange 1 (modules n) u → u < v → Says u false)) → Finds (modules n) Good Bad o
    found None p = λ v h. good v h (p v h)
    found (Some v) p = record { within = p.0; has = bad v p.0 p.1; none_lower = λ u h lt b. one u (good u h (p.2 u h lt)) b }

-- one more entry says whether Q
pub entry_more : (Q : ℕ → Type 0) (xs : List Bool) (i : ℕ) (r : Bool) → i < length xs → ((k : ℕ) → k < i → Decides (get_or xs k false) (Q k)) → Decides r (Q i) → (k : ℕ) → k < i + 1 → Decides (get_or (set xs i r) k false) (Q k)
entry_more Q xs i r h before here =
    below_more (λ k. Decides (get_or (set xs i r) k false) (Q k)) i
    (λ k lt. let ne : k ≢ i = omega arith in rw (get_or-set_other xs i k r false ne) (before k lt))
    (rw (get_or-set_same xs i r false h) here)

-- the whole table
pub table_filled : (Step : ℕ → ℕ → ℕ → Type 0) (m : ℕ) (ws : List Bool) (i : ℕ) → m * m ≤ i → ((k : ℕ) → k < i → Decides (get_or ws k false) (Move Step (k / m + 1) (k % m + 1))) → Table Step m ws
table_filled Step m ws i all filled u v hu hv =
    rw (div-mul-add u m v hv, mod-mul-add u m v hv) at (filled (u * m + v) (omega (arith, mul-add-lt u m v m hu hv)))

-- what the entries say of each module, read for module v
pub entry_of_module : (P : ℕ → Type 0) (at : List Bool) (m v : ℕ) → IsInRange 1 m v → ((k : ℕ) → k < m → Decides (get_or at k false) (P (k + 1))) → Decides (get_or at (v - 1) false) (P v)
entry_of_module P at m v h all =
    let is : v - 1 + 1 ≡ v = omega (arith, h.0) in
    subst (λ x. Decides (get_or at (v - 1) false) (P x)) is (all (v - 1) (omega (arith, h.0, h.1)))

-- where yes stands at the first module alone, what is reached is what is led to from there
pub first_alone : (Step : ℕ → ℕ → ℕ → Type 0) (at : List Bool) (m v : ℕ) (r : Bool) → 0 < m → at ≡ replicate m false → Decides r (Reached Step (set at 0 true) v) → Decides r ((es : List ℕ) × Leads Step 1 es (v + 1))
first_alone Step at m v r some none d = (
  (λ y. let f = d.0 y in (f.3.0, subst (λ u. Leads Step (u + 1) f.3.0 (v + 1)) (first f.0 f.1 f.2) f.3.1)),
  (λ l. d.1 (0, rw (length-set at 0 true) within, get_or-set_same at 0 true false within, l)),
)
  where
    long : length at ≡ m
    long = ap length none ∙ length-replicate m false

    within : 0 < length at
    within = omega (arith, long)

    first : (u : ℕ) → u < length (set at 0 true) → get_or (set at 0 true) u false ≡ true → u ≡ 0
    first u h y =
        let lt : u < m = omega (arith, length-set at 0 true, long) in
        ⊎_elim (λ e. e)
        (λ (ne : u ≡ 0 → ⊥). absurd (false≢true (sym (get_or-set_other at 0 u true false ne ∙ ap (λ xs. get_or xs u false) none ∙ get_or-replicate m u false false lt) ∙ y)))
        (cases_eq u 0)

-- where yes stands where a step leads from v, and what is reached from there is v, steps lead back to it
pub ring_found : (Step : ℕ → ℕ → ℕ → Type 0) (at : List Bool) (m v : ℕ) (r : Bool) → length at ≡ m → IsInRange 1 m v → ((e u w : ℕ) → Step e u w → IsInRange 1 m w) → Stepping Step v at → Decides r (Reached Step at (v - 1)) → Decides r ((es : List ℕ) × (0 < length es) × Leads Step v es v)
ring_found Step at m v r long h ends stepping d = (
  (λ y.
      let f = d.0 y in
      let s = (stepping f.0 f.1).0 f.2 in
      (s.0 ∷ f.3.0, omega arith, (f.0 + 1, s.1, subst (λ x. Leads Step (f.0 + 1) f.3.0 x) back f.3.1))),
  (λ l. around l.0 l.1 l.2),
)
  where
    back : v - 1 + 1 ≡ v
    back = omega (arith, h.0)

    around : (es : List ℕ) → 0 < length es → Leads Step v es v → r ≡ true
    around [] some l = absurd (omega arith)
    around (e ∷ es) some l =
        let to = ends e v l.0 l.1 in
        let is : l.0 ≡ l.0 - 1 + 1 = omega (arith, to.0) in
        let lt : l.0 - 1 < length at = omega (arith, to.0, to.1, long) in
        d.1 (
          l.0 - 1,
          lt,
          (stepping (l.0 - 1) lt).1 (e, subst (λ x. Step e v x) is l.1),
          (es, subst (λ x. Leads Step x es (v - 1 + 1)) is (subst (λ x. Leads Step l.0 es x) (sym back) l.2)),
        )
