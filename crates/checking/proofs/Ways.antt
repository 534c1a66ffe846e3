-- Whether a way leads from one module to another is decided by trying each channel in turn, so where it cannot be that none does,
-- one does. Assumes nothing.
use Rattle.std.proofs.Common.{◌≡◌, ℕ, zero, suc, ◌≤◌, ◌⊎◌, List, [], ◌∷◌, length, sym, refl, subst, inl, inr, ⊎_elim, arith}
use Rattle.std.proofs.lemmas.Bool.{cases_eq}
use Rattle.std.specs.Int.{IsInRange}
use Rattle.netlist.specs.declared.netlist.Netlist.{Netlist}
use Rattle.netlist.specs.Holds.{channel, channels, modules}
use Rattle.checking.specs.Faults.{Apart, Nobody}
use Rattle.checking.specs.Nets.{FromTo, Joined, Joins, Way}
use Rattle.checking.specs.declared.link.Link.TheVariants.{EitherWay}
use Rattle.checking.proofs.Cuts.{cut}
use Rattle.checking.proofs.Held.{step_in}

-- P, or not P
abbrev Known : Type 0 → Type 0
Known P = P ⊎ (P → ⊥)

both : {P Q : Type 0} → Known P → Known Q → Known (P × Q)
both p q = ⊎_elim (λ x. ⊎_elim (λ y. inl (x, y)) (λ no. inr (λ b. no b.1)) q) (λ no. inr (λ b. no b.0)) p

-- one of the numbers from 1 to m, or none
some_number : (P : ℕ → Type 0) → ((k : ℕ) → Known (P k)) → (m : ℕ) → Known ((k : ℕ) × IsInRange 1 m k × P k)
some_number P known zero = inr (λ f. omega (arith, f.1.0, f.1.1))
some_number P known (suc m) =
    ⊎_elim
    (λ p. inl (suc m, (omega arith, omega arith), p))
    (λ no.
    ⊎_elim
    (λ f. inl (f.0, (f.1.0, omega (arith, f.1.1)), f.2))
    (λ none. inr (λ f. ⊎_elim (λ (top : f.0 ≡ suc m). no (subst P top f.2)) (λ (ne : f.0 ≡ suc m → ⊥). none (f.0, (f.1.0, omega (arith, f.1.1, ne)), f.2)) (cases_eq f.0 (suc m))))
    (some_number P known m))
    (known (suc m))

module _ (n : Netlist) where
  -- channel e leads from u, in either direction, to a module that has P
  onto : (P : ℕ → Type 0) → ((w : ℕ) → Known (P w)) → (e u : ℕ) → Known ((w : ℕ) × (FromTo (channel n e) u w ⊎ FromTo (channel n e) w u) × P w)
  onto P known e u =
      let c = channel n e in
      ⊎_elim
      (λ f. inl (c.sink, inl (f.0, refl), f.1))
      (λ no.
      ⊎_elim
      (λ f. inl (c.source, inr (refl, f.0), f.1))
      (λ none. inr (λ f. ⊎_elim (λ t. no (t.0, subst P (sym t.1) f.2)) (λ t. none (t.1, subst P (sym t.0) f.2)) f.1))
      (both (cases_eq c.sink u) (known c.source)))
      (both (cases_eq c.source u) (known c.sink))

  -- a way of at most m channels
  within : (m u v : ℕ) → Known ((es : List ℕ) × (length es ≤ m) × Way n u es v)
  within zero u v = ⊎_elim (λ same. inl ([], omega arith, same)) (λ ne. inr (λ f. none ne f.0 f.1 f.2)) (cases_eq u v)
    where
      none : (u ≡ v → ⊥) → (es : List ℕ) → length es ≤ 0 → Way n u es v → ⊥
      none ne [] few w = ne w
      none ne (e ∷ es) few w = omega arith
  within (suc m) u v =
      ⊎_elim
      (λ same. inl ([], omega arith, same))
      (λ ne.
      ⊎_elim
      (λ f. inl (f.0 ∷ f.2.2.0, omega (arith, f.2.2.1), (f.2.0, (f.1, f.2.1), f.2.2.2)))
      (λ no. inr (λ f. none ne no f.0 f.1 f.2))
      (some_number
      (λ e. (w : ℕ) × (FromTo (channel n e) u w ⊎ FromTo (channel n e) w u) × ((es : List ℕ) × (length es ≤ m) × Way n w es v))
      (λ e. onto (λ w. (es : List ℕ) × (length es ≤ m) × Way n w es v) (λ w. within m w v) e u)
      (channels n)))
      (cases_eq u v)
    where
      none : (u ≡ v → ⊥) → (((e : ℕ) × IsInRange 1 (channels n) e × ((w : ℕ) × (FromTo (channel n e) u w ⊎ FromTo (channel n e) w u) × ((es : List ℕ) × (length es ≤ m) × Way n w es v))) → ⊥)
          → (es : List ℕ) → length es ≤ suc m → Way n u es v → ⊥
      none ne not_on [] few w = ne w
      none ne not_on (e ∷ es) few w = not_on (e, w.1.0, (w.0, w.1.1, (es, omega (arith, few), w.2)))

  -- where no module is apart, each is joined to module 1
  pub all_joined : Nobody (modules n) (Apart n) → (v : ℕ) → IsInRange 1 (modules n) v → Joined n 1 v
  all_joined nobody v h =
      ⊎_elim
      (λ f. (f.0, f.2))
      (λ no. absurd (nobody v h (λ es way.
      let c = cut (Joins n) (modules n) (step_in EitherWay n) es 1 v (omega arith, omega (arith, n.some.0)) way in
      no (c.0, omega (arith, c.1), c.2))))
      (within (modules n) 1 v)
