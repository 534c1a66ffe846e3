-- Every slow cycle has a simple slow cycle inside, and a simple cycle is short. Assumes nothing.
-- A cycle that passes a module twice is two shorter cycles; the weights of the two sum to that of the whole, so one of them is slow.
use Rattle.std.proofs.Common.{◌≡◌, ℕ, zero, suc, ◌+◌, ◌-◌, ◌*◌, ◌<◌, ◌≤◌, List, ◌++◌, length, get_or, take, drop, sym, refl, ap, ◌∙◌, subst, ⊎_elim, mul-add, arith, length-append, length-drop, take-append-drop, length-take-le, get_or-drop}
use Rattle.std.proofs.lemmas.List.{get_or_append_left, get_or-append-add, get_or-append_right}
use Rattle.std.proofs.lemmas.Bool.{cases_lt}
use Rattle.marked.specs.declared.place.Place.{Place}
use Rattle.marked.specs.Graphs.{at, start, Leads, Cycle, Slow, tokens_on}
use Rattle.marked.specs.Laws.{Among, SlowInside, SlowHasSimple, SimpleIsShort}
use Rattle.marked.proofs.Pigeons.{pigeons, Again, twice}
use Rattle.marked.proofs.Walks.{leads_append, leads_cut, leads_inside, tokens_append}

-- a closed walk in three parts, of which the one in the middle is closed too
record Parts (G : List Place) (hub : ℕ) (ps : List ℕ) : Type 0 where
  front : List ℕ
  loop : List ℕ
  back : List ℕ
  whole : ps ≡ front ++ (loop ++ back)
  some : 0 < length loop
  more : 0 < length back
  knot : ℕ
  enters : Leads G hub front knot
  round : Leads G knot loop knot
  leaves : Leads G knot back hub

-- a closed walk, cut where it passes a module for the first and for the second time
cut : (G : List Place) (ps : List ℕ) (hub : ℕ) → Leads G hub ps hub → Again (λ i. start G ps i) (length ps) → Parts G hub ps
cut G ps hub l a = record {
  front = take i ps;
  loop = take d rest;
  back = drop d rest;
  whole = sym (take-append-drop i ps) ∙ ap (λ qs. take i ps ++ qs) (sym (take-append-drop d rest));
  some = omega (arith, length-take-le d rest (omega (arith, d_in)), a.before);
  more = omega (arith, length-drop d rest, d_in);
  knot = start G ps i;
  enters = one.0;
  round = subst (Leads G (start G ps i) (take d rest)) there two.0;
  leaves = subst (λ x. Leads G x (drop d rest) hub) there two.1;
}
  where
    i : ℕ
    i = a.one

    d : ℕ
    d = a.other - a.one

    rest : List ℕ
    rest = drop a.one ps

    d_in : d < length rest
    d_in = omega (arith, length-drop a.one ps, a.before, a.inside)

    one : Leads G hub (take i ps) (start G ps i) × Leads G (start G ps i) rest hub
    one = leads_cut G ps hub hub i (omega (arith, a.before, a.inside)) l

    two : Leads G (start G ps i) (take d rest) (start G rest d) × Leads G (start G rest d) (drop d rest) hub
    two = leads_cut G rest (start G ps i) hub d d_in one.1

    there : start G rest d ≡ start G ps i
    there = ap (λ p. (at G p).from) (get_or-drop i ps d 0 ∙ ap (λ x. get_or ps x 0) (let e : i + d ≡ a.other = omega (arith, a.before) in e)) ∙ sym a.same

-- what is among the places of a part is among those of the whole
among_all : (qs rs ps : List ℕ) → Among rs qs → Among qs ps → Among rs ps
among_all qs rs ps inner outer i h =
    let x = inner i h in
    let y = outer x.0 x.1 in
    (y.0, y.1, y.2 ∙ x.2)

module _ (G : List Place) (ps : List ℕ) (hub : ℕ) (s : Parts G hub ps) where
  -- the walk without its loop
  without : List ℕ
  without = s.front ++ s.back

  lengths : length ps ≡ length s.front + (length s.loop + length s.back)
  lengths = ap length s.whole ∙ length-append s.front (s.loop ++ s.back) ∙ ap (λ x. length s.front + x) (length-append s.loop s.back)

  tokens : tokens_on G ps ≡ tokens_on G s.front + (tokens_on G s.loop + tokens_on G s.back)
  tokens = ap (tokens_on G) s.whole ∙ tokens_append G s.front (s.loop ++ s.back) ∙ ap (λ x. tokens_on G s.front + x) (tokens_append G s.loop s.back)

  without_length : length without ≡ length s.front + length s.back
  unfolding without
  without_length = length-append s.front s.back

  loop_cycle : Cycle G s.loop
  loop_cycle = record { some = s.some; hub = s.knot; closed = s.round }

  without_cycle : Cycle G without
  unfolding without
  without_cycle = record {
    some = omega (arith, without_length, s.more);
    hub = hub;
    closed = leads_append G s.front s.back hub s.knot hub s.enters s.leaves;
  }

  -- what is left of a slow cycle without a loop that is not slow
  without_slow : (a b : ℕ) → Slow a b G ps → a * length s.loop ≤ b * tokens_on G s.loop → Slow a b G without
  unfolding without
  without_slow a b slow fine =
      omega (
        arith,
        slow,
        fine,
        ap (λ x. a * x) lengths,
        mul-add a (length s.front) (length s.loop + length s.back),
        mul-add a (length s.loop) (length s.back),
        ap (λ x. a * x) without_length,
        mul-add a (length s.front) (length s.back),
        ap (λ x. b * x) tokens,
        mul-add b (tokens_on G s.front) (tokens_on G s.loop + tokens_on G s.back),
        mul-add b (tokens_on G s.loop) (tokens_on G s.back),
        ap (λ x. b * x) (tokens_append G s.front s.back),
        mul-add b (tokens_on G s.front) (tokens_on G s.back),
      )

  loop_among : Among s.loop ps
  loop_among i h = (
    length s.front + i,
    omega (arith, lengths),
    ap (λ qs. get_or qs (length s.front + i) 0) s.whole ∙ get_or-append-add s.front (s.loop ++ s.back) i 0 ∙ get_or_append_left s.loop s.back 0 i h,
  )

  without_among : Among without ps
  unfolding without
  without_among i h =
      ⊎_elim
      (λ lt. (
        i,
        omega (arith, lengths),
        ap (λ qs. get_or qs i 0) s.whole ∙ get_or_append_left s.front (s.loop ++ s.back) 0 i lt ∙ sym (get_or_append_left s.front s.back 0 i lt),
      ))
      (λ ge.
      let d = i - length s.front in (
        length s.front + (length s.loop + d),
        omega (arith, lengths, without_length),
        ap (λ qs. get_or qs (length s.front + (length s.loop + d)) 0) s.whole
            ∙ get_or-append-add s.front (s.loop ++ s.back) (length s.loop + d) 0
            ∙ get_or-append-add s.loop s.back d 0
            ∙ sym (get_or-append_right s.front s.back (length s.front) i 0 refl ge),
      ))
      (cases_lt i (length s.front))

-- what lies inside a part lies inside the whole
inside_of : (a b : ℕ) (G : List Place) (qs ps : List ℕ) → Among qs ps → SlowInside a b G qs → SlowInside a b G ps
inside_of a b G qs ps among s = record {
  walk = s.walk;
  among = among_all qs s.walk ps s.among among;
  cycle = s.cycle;
  simple = s.simple;
  slow = s.slow;
}

-- by induction on a bound of the length
shorten : (m a b : ℕ) (G : List Place) (ps : List ℕ) → length ps ≤ m → Cycle G ps → Slow a b G ps → SlowInside a b G ps
shorten zero a b G ps h c slow = absurd (omega (arith, c.some))
shorten (suc m) a b G ps h c slow =
    ⊎_elim
    (λ simple. record { walk = ps; among = λ i hi. (i, hi, refl); cycle = c; simple = simple; slow = slow })
    (λ again.
    let s = cut G ps c.hub c.closed again in
    let all = lengths G ps c.hub s in
    ⊎_elim
    (λ slow_loop. inside_of a b G s.loop ps (loop_among G ps c.hub s) (shorten m a b G s.loop (omega (arith, all, s.more)) (loop_cycle G ps c.hub s) slow_loop))
    (λ fine.
    inside_of a b G _ ps (without_among G ps c.hub s)
    (shorten m a b G _ (omega (arith, all, s.some, without_length G ps c.hub s)) (without_cycle G ps c.hub s) (without_slow G ps c.hub s a b slow fine)))
    (cases_lt (b * tokens_on G s.loop) (a * length s.loop)))
    (twice (λ i. start G ps i) (length ps))

pub slow_has_simple : SlowHasSimple
slow_has_simple a b G ps c slow = shorten (length ps) a b G ps (omega arith) c slow

pub simple_is_short : SimpleIsShort
simple_is_short n G ps starts c simple =
    ⊎_elim
    (λ long.
    absurd (pigeons n (λ i. start G ps i)
    (λ i h. starts (get_or ps i 0) (leads_inside G ps c.hub c.hub c.closed i (omega arith)))
    (λ i j lt h e. simple i j lt (omega arith) e)))
    (λ short. short)
    (cases_lt n (length ps))
