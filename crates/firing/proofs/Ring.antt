-- The ring of two modules meets the premises, and its firings. Assumes nothing.
use Rattle.std.proofs.Common.{◌≡◌, ℕ, zero, suc, ◌+◌, ◌*◌, ◌<◌, ◌≤◌, List, [], ◌∷◌, length, replicate, ℤ, pos, neg_ℤ, ◌≤ℤ◌, refl, ap, inr, arith}
use native.Mathlib.Nat.{eq-one_of_dvd-one}
use Rattle.std.proofs.lemmas.Int.{ints}
use Rattle.marked.specs.Graphs.{at, Leads, Cycle, Potential, tokens_on}
use Rattle.marked.specs.Limits.{Starts}
use Rattle.marked.specs.Rates.{IsRate}
use Rattle.marked.proofs.Walks.{weights_is}
use Rattle.firing.specs.Firings.{ready, holding, free, step, firings, held_steps}
use Rattle.firing.specs.Ring.{ring, round, hold_0}
use Rattle.firing.specs.Theorems.{Connected, RatedGraph}

pub in_turn : (firings ring (replicate 5 free) 0 ≡ 2) × (firings ring (replicate 5 free) 1 ≡ 3)
unfolding ready step firings
in_turn = (refl, refl)

pub with_a_hold : (firings ring (free ∷ hold_0 ∷ free ∷ []) 0 ≡ 1) × (firings ring (free ∷ hold_0 ∷ free ∷ []) 1 ≡ 1) × (held_steps (free ∷ hold_0 ∷ free ∷ []) ≡ 1)
unfolding ready step firings holding held_steps
with_a_hold = (refl, refl, refl)

pub cycle : Cycle ring round
cycle = record { some = omega arith; hub = 0; closed = (omega arith, refl, (omega arith, refl, refl)) }

-- what holds of 0 and of 1 holds of both modules, and of both places
each : (C : ℕ → Type 0) → C 0 → C 1 → (p : ℕ) → p < 2 → C p
each C forth back zero lt = forth
each C forth back (suc zero) lt = back
each C forth back (suc (suc p)) lt = absurd (omega arith)

-- how far the potentials are below 0
depth : ℕ → ℕ
depth zero = 1
depth (suc v) = 0

-- the token on the place from 0 makes up for the fall of both places
climbs : (p : ℕ) → p < 2 → depth (at ring p).from + 1 ≤ depth (at ring p).to + 2 * (at ring p).tokens
unfolding depth
climbs = each (λ p. depth (at ring p).from + 1 ≤ depth (at ring p).to + 2 * (at ring p).tokens) (omega arith) (omega arith)

-- so no walk is lighter than the depth where it ends, and no cycle is slow for 1/2
along : (u v : ℕ) (ps : List ℕ) → Leads ring u ps v → depth u + length ps ≤ depth v + 2 * tokens_on ring ps
along u v [] e = omega (arith, ap depth e)
along u v (p ∷ ps) e = omega (arith, ap depth e.1, climbs p e.0, along (at ring p).to v ps e.2)

potential : ℕ → ℤ
potential v = neg_ℤ (pos (depth v))

potentials : (v : ℕ) → v < 2 → Potential 1 2 ring v (potential v)
unfolding potential depth
potentials =
    each (λ v. Potential 1 2 ring v (potential v))
    (record { source = 1; walk = 1 ∷ []; leads = (omega arith, refl, refl); reached = refl; bound = λ u ps l. omega (arith, ints, along u 0 ps l, weights_is 1 2 ring ps) })
    (record { source = 1; walk = []; leads = refl; reached = refl; bound = λ u ps l. omega (arith, ints, along u 1 ps l, weights_is 1 2 ring ps) })

is_rate : IsRate ring 1 2
is_rate = record {
  coprime = λ d one two. eq-one_of_dvd-one one;
  positive = omega arith;
  proper = omega arith;
  bound = λ ps c. omega (arith, along c.hub c.hub ps c.closed);
  reached = inr (round, cycle, refl);
}

starts : Starts 2 ring
starts = each (λ p. (at ring p).from < 2) (omega arith) (omega arith)

pub rated : RatedGraph 2 ring 1 2
unfolding potential depth
rated = record {
  starts = starts;
  is_rate = is_rate;
  potential = potential;
  potentials = potentials;
  range = each (λ v. neg_ℤ (pos 1) ≤ℤ potential v) (omega (arith, ints)) (omega (arith, ints));
}

pub connected : Connected 2 ring 0
connected = record {
  starts = starts;
  few = each (λ p. (at ring p).tokens ≤ 0 + 1) (omega arith) (omega arith);
  joined = λ u v u_in v_in.
      each (λ u. (ps : List ℕ) × Leads ring u ps v × (length ps ≤ 1))
      (each (λ v. (ps : List ℕ) × Leads ring 0 ps v × (length ps ≤ 1)) ([], refl, omega arith) (0 ∷ [], (omega arith, refl, refl), omega arith) v v_in)
      (each (λ v. (ps : List ℕ) × Leads ring 1 ps v × (length ps ≤ 1)) (1 ∷ [], (omega arith, refl, refl), omega arith) ([], refl, omega arith) v v_in)
      u u_in;
}
