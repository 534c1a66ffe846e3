-- What follows where no module has a fault. Assumes nothing.
use Rattle.std.proofs.Common.{◌≡◌, ℕ, zero, suc, ◌+◌, ◌-◌, ◌<◌, ◌≤◌, Bool, true, cond, eqb, ◌⊎◌, List, [], ◌∷◌, ◌++◌, length, get_or, count_by, sym, refl, ap, ◌∙◌, subst, inl, inr, ⊎_elim, arith}
use Rattle.std.proofs.lemmas.List.{length_push}
use Rattle.std.proofs.lemmas.List.Sums.{get_or-le-sum_by, sum_by-cons}
use Rattle.std.proofs.lemmas.Bool.{cases_Bool, cases_eq, cond-true, cond-false, eq-eqb, eqb-true}
use Rattle.std.specs.Int.{IsInRange}
use Rattle.netlist.specs.Holds.{channels_of}
use Rattle.netlist.specs.declared.channel.Channel.{Channel}
use Rattle.netlist.specs.declared.kind.Kind.{Kind}
use Rattle.netlist.specs.declared.kind.Kind.TheVariants.{Block, RelayStation}
use Rattle.netlist.specs.declared.netlist.Netlist.{Netlist}
use Rattle.checking.specs.Faults.{Loose, Nobody, Ringed}
use Rattle.netlist.specs.Holds.{channel, channels, kind_of, modules}
use Rattle.checking.specs.Nets.{Hops, Joined, Joins, Leads, Origin, Relay, Way, inputs, outputs}
use Rattle.checking.specs.Verdicts.{Faultless, Passed}
use Rattle.checking.specs.declared.link.Link.TheVariants.{EitherWay, Relays}
use Rattle.checking.proofs.Cuts.{cut, few, leads_append, leads_back}
use Rattle.checking.proofs.Held.{source_in, step_in}
use Rattle.checking.proofs.Ways.{all_joined}

module _ {X : Type 0} (p : X → Bool) where
  counted_cons : (x : X) (xs : List X) → count_by p (x ∷ xs) ≡ cond (p x) 1 0 + count_by p xs
  counted_cons = sum_by-cons (λ x. cond (p x) 1 0)

  -- where one passes, one is counted
  counts_one : (xs : List X) (i : ℕ) (d : X) → i < length xs → p (get_or xs i d) ≡ true → 0 < count_by p xs
  counts_one xs i d h y = omega (arith, get_or-le-sum_by (λ x. cond (p x) 1 0) xs i d h, cond-true {A = ℕ} (p (get_or xs i d)) 1 0 y)

  -- where some are counted, one passes
  pub one_counted : (xs : List X) (d : X) → 0 < count_by p xs → (i : ℕ) × (i < length xs) × (p (get_or xs i d) ≡ true)
  one_counted [] d h = absurd (omega arith)
  one_counted (x ∷ xs) d h =
      ⊎_elim
      (λ y. (0, omega arith, y))
      (λ no_x. let r = one_counted xs d (omega (arith, counted_cons x xs, cond-false {A = ℕ} (p x) 1 0 no_x)) in (suc r.0, omega (arith, r.1), r.2))
      (cases_Bool (p x))

  -- where one is counted, no two pass
  pub same_counted : (xs : List X) (d : X) (i j : ℕ) → count_by p xs ≡ 1 → i < length xs → j < length xs → p (get_or xs i d) ≡ true → p (get_or xs j d) ≡ true → i ≡ j
  same_counted [] d i j one hi hj yi yj = absurd (omega arith)
  same_counted (x ∷ xs) d zero zero one hi hj yi yj = refl
  same_counted (x ∷ xs) d zero (suc j) one hi hj yi yj =
      absurd (omega (arith, counted_cons x xs, cond-true {A = ℕ} (p x) 1 0 yi, counts_one xs j d (omega arith) yj))
  same_counted (x ∷ xs) d (suc i) zero one hi hj yi yj =
      absurd (omega (arith, counted_cons x xs, cond-true {A = ℕ} (p x) 1 0 yj, counts_one xs i d (omega arith) yi))
  same_counted (x ∷ xs) d (suc i) (suc j) one hi hj yi yj =
      let few_left : count_by p xs ≡ 1 = omega (arith, counted_cons x xs, counts_one xs i d (omega arith) yi) in
      ap suc (same_counted xs d i j few_left (omega arith) (omega arith) yi yj)

abbrev nowhere : Channel
nowhere = record { source = 0; sink = 0 }

pub either_kind : (k : Kind) → (k ≡ Block) ⊎ (k ≡ RelayStation)
either_kind Block = inl refl
either_kind RelayStation = inr refl

pub both_kinds : (k : Kind) → k ≡ Block → k ≡ RelayStation → ⊥
both_kinds k b r = let z : ◌≡◌ {A = ℕ} 0 1 = cc in omega arith

joins_back : (n : Netlist) (e u v : ℕ) → Joins n e u v → Joins n e v u
joins_back n e u v s = (s.0, ⊎_elim (λ f. inr f) (λ f. inl f) s.1)

module _ (n : Netlist) (ends : Nobody (modules n) (Loose n)) (joined : (v : ℕ) → IsInRange 1 (modules n) v → Joined n 1 v) (no_ring : Nobody (modules n) (Ringed n)) where
  relays : (v : ℕ) → IsInRange 1 (modules n) v → Relay n v → (inputs n v ≡ 1) × (0 < outputs n v)
  relays v h r = (
    ⊎_elim (λ one. one) (λ ne. absurd (ends v h (r, inl ne))) (cases_eq (inputs n v) 1),
    ⊎_elim (λ none. absurd (ends v h (r, inr none))) (λ some. omega (arith, some)) (cases_eq (outputs n v) 0),
  )

  -- back to module 1, on from there, and cut
  ways : (u v : ℕ) → IsInRange 1 (modules n) u → IsInRange 1 (modules n) v → (es : List ℕ) × (length es < modules n) × Way n u es v
  ways u v hu hv =
      let to = joined u hu in
      let on = joined v hv in
      let back = leads_back (Joins n) (joins_back n) to.0 1 u to.1 in
      cut (Joins n) (modules n) (step_in EitherWay n) (back.0 ++ on.0) u v hu (leads_append (Joins n) back.0 on.0 u 1 v back.1 on.1)

  -- the input channel of a relay station
  input : (v : ℕ) → IsInRange 1 (modules n) v → Relay n v → (d : ℕ) × IsInRange 1 (channels n) d × ((channel n d).sink ≡ v)
  input v h r =
      let i = one_counted (λ c. eqb c.sink v) (channels_of n) nowhere (omega (arith, (relays v h r).0)) in
      let at : i.0 ≡ i.0 + 1 - 1 = omega arith in
      (i.0 + 1, (omega arith, omega (arith, i.1, n.channels.ok.0)), subst (λ k. (get_or (channels_of n) k nowhere).sink ≡ v) at (eqb-true (get_or (channels_of n) i.0 nowhere).sink v i.2))

  -- it is the only one
  same_input : (v d c : ℕ) → IsInRange 1 (modules n) v → Relay n v → IsInRange 1 (channels n) d → IsInRange 1 (channels n) c → (channel n d).sink ≡ v → (channel n c).sink ≡ v → d ≡ c
  same_input v d c h r hd hc sd sc =
      let same = same_counted (λ x. eqb x.sink v) (channels_of n) nowhere (d - 1) (c - 1) (relays v h r).0
      (omega (arith, hd.0, hd.1, n.channels.ok.0)) (omega (arith, hc.0, hc.1, n.channels.ok.0)) (eq-eqb (channel n d).sink v sd) (eq-eqb (channel n c).sink v sc) in
      omega (arith, same, hd.0, hc.0)

  -- the origin of channel e, at most m relay stations back
  abbrev Found : ℕ → ℕ → Type 0
  Found m e = (k : ℕ) × (b : ℕ) × (k ≤ m) × IsInRange 1 (modules n) b × Origin n e k b

  -- relay stations only, m channels back from channel e
  abbrev Back : ℕ → ℕ → Type 0
  Back m e = (u : ℕ) × (es : List ℕ) × IsInRange 1 (modules n) u × (length es ≡ m) × Relay n (channel n e).source × Leads (Hops n) u es (channel n e).source

  go_back : (m e : ℕ) → IsInRange 1 (channels n) e → Found m e ⊎ Back m e
  go_back zero e h =
      ⊎_elim
      (λ b. inl (0, (channel n e).source, omega arith, source_in n e h, (refl, b)))
      (λ r. inr ((channel n e).source, [], source_in n e h, refl, r, refl))
      (either_kind (kind_of n (channel n e).source))
  go_back (suc m) e h =
      ⊎_elim
      (λ b. inl (0, (channel n e).source, omega arith, source_in n e h, (refl, b)))
      (λ r.
      let v = (channel n e).source in
      let d = input v (source_in n e h) r in
      ⊎_elim
      (λ (f : Found m d.0). inl (suc f.0, f.1, omega (arith, f.2), f.3, (r, (d.0, d.1, d.2, f.4))))
      (λ (b : Back m d.0).
      inr (
        b.0,
        b.1 ++ d.0 ∷ [],
        b.2,
        omega (arith, length_push b.1 d.0, b.3),
        r,
        leads_append (Hops n) b.1 (d.0 ∷ []) b.0 (channel n d.0).source v b.5 (v, (d.1, ((refl, d.2), b.4, r)), refl),
      ))
      (go_back m d.0 d.1))
      (either_kind (kind_of n (channel n e).source))

  no_ring_at : (v : ℕ) (es : List ℕ) → 0 < length es → Leads (Hops n) v es v → ⊥
  no_ring_at v [] some l = omega arith
  no_ring_at v (e ∷ es) some l = no_ring v (subst (IsInRange 1 (modules n)) l.1.1.0.0 (source_in n e l.1.0)) (e ∷ es, some, l)

  origins : (e : ℕ) → IsInRange 1 (channels n) e → (k : ℕ) × (b : ℕ) × (k ≤ modules n) × IsInRange 1 (modules n) b × Origin n e k b
  origins e h =
      ⊎_elim
      (λ (f : Found (modules n) e). f)
      (λ (b : Back (modules n) e). absurd (omega (arith, b.3, few (Hops n) (modules n) (step_in Relays n) no_ring_at b.1 b.0 (channel n e).source b.2 b.5)))
      (go_back (modules n) e h)

  one_origin : (e k b j a : ℕ) → IsInRange 1 (channels n) e → Origin n e k b → Origin n e j a → (k ≡ j) × (b ≡ a)
  one_origin e zero b zero a h o p = (refl, sym o.0 ∙ p.0)
  one_origin e zero b (suc j) a h o p = absurd (both_kinds (kind_of n (channel n e).source) (ap (kind_of n) o.0 ∙ o.1) p.0)
  one_origin e (suc k) b zero a h o p = absurd (both_kinds (kind_of n (channel n e).source) (ap (kind_of n) p.0 ∙ p.1) o.0)
  one_origin e (suc k) b (suc j) a h o p =
      let c = o.1 in
      let d = p.1 in
      let same = same_input (channel n e).source d.0 c.0 (source_in n e h) o.0 d.1 c.1 d.2 c.2 in
      let r = one_origin c.0 k b j a c.1 c.3 (subst (λ x. Origin n x j a) same d.3) in
      (ap suc r.0, r.1)

  pub passed : Passed n
  passed = record {
    faultless = record { relay_ends = ends; joined = λ v h apart. apart (joined v h).0 (joined v h).1; no_ring = no_ring };
    relays = relays;
    ways = ways;
    origins = origins;
    one_origin = one_origin;
  }

-- what follows from there being no fault
pub passed_of : (n : Netlist) → Faultless n → Passed n
passed_of n f = passed n f.relay_ends (all_joined n f.joined) f.no_ring
