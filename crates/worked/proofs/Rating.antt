-- The rows of rates. Assumes nothing.
use Rattle.std.proofs.Common.{◌≡◌, ℕ, zero, suc, ◌-◌, ◌%◌, ◌<◌, ◌≤◌, true, List, [], ◌∷◌, get_or, pos, sym, refl, subst, inl, inr, arith}
use native.Mathlib.Nat.{eq-one_of_dvd-one}
use Rattle.marked.specs.declared.place.Place.{Place}
use Rattle.marked.specs.Graphs.{Cycle, Potential, start}
use Rattle.marked.specs.Rates.{Coprime, Exact, IsRate, Shown}
use Rattle.netlist.specs.declared.netlist.Netlist.{Netlist}
use Rattle.rating.specs.Extended.{graph_of}
use Rattle.worked.specs.Netlists.{Alone, D, Made}
use Rattle.worked.specs.Rows.{d_potentials}
use Rattle.worked.proofs.Certificates.{certified, potential, reaches}
use Rattle.worked.proofs.Holding.{graph_by, graph_is}

-- the cycle that shows the rate of D, by indices: to the relay station, on to C, back to B and back to A; it is one under every sizing
abbrev pub d_cycle : List ℕ
d_cycle = 4 ∷ 6 ∷ 3 ∷ 1 ∷ []

pub d_round : (p q r s : ℕ) → Cycle (graph_by D (p ∷ q ∷ r ∷ s ∷ [])) d_cycle
d_round p q r s = record { some = omega arith; hub = 0; closed = (omega arith, refl, (omega arith, refl, (omega arith, refl, (omega arith, refl, refl)))) }

abbrev d_graph : List Place
d_graph = graph_by D D.sizes

-- the modules on it, by indices: 0, 3, 2 and 1
passes : (i : ℕ) → i < 4 → start d_graph d_cycle i ≡ (4 - i) % 4
passes zero l = refl
passes (suc zero) l = refl
passes (suc (suc zero)) l = refl
passes (suc (suc (suc zero))) l = refl
passes (suc (suc (suc (suc i)))) l = absurd (omega arith)

shown : Shown 3 4 d_graph d_cycle
shown = record {
  cycle = d_round 1 1 1 1;
  simple = λ i j less within same. omega (arith, same, passes i (omega arith), passes j within);
  lowest_first = λ i within. omega arith;
  exact = refl;
}

abbrev d_depths : List ℕ
d_depths = 1 ∷ 2 ∷ 3 ∷ 0 ∷ []

-- what these depths and this cycle show to be the rate
is_rate : (p l : ℕ) → Coprime p l → 0 < l → p ≤ l → certified p l d_depths d_graph ≡ true → Exact p l d_graph d_cycle → IsRate d_graph p l
is_rate p l coprime positive proper passes exact =
    record { coprime = coprime; positive = positive; proper = proper; bound = reaches p l d_depths d_graph passes; reached = inr (d_cycle, d_round 1 1 1 1, exact) }

-- the lightest walks start at the relay station
potentials : (v : ℕ) → v < 4 → Potential 3 4 d_graph v (get_or d_potentials v (pos 0))
potentials zero l = potential 3 4 d_depths d_graph refl 0 _ 3 (6 ∷ 3 ∷ 1 ∷ []) (omega arith, refl, (omega arith, refl, (omega arith, refl, refl))) refl refl
potentials (suc zero) l = potential 3 4 d_depths d_graph refl 1 _ 3 (6 ∷ 3 ∷ []) (omega arith, refl, (omega arith, refl, refl)) refl refl
potentials (suc (suc zero)) l = potential 3 4 d_depths d_graph refl 2 _ 3 (6 ∷ []) (omega arith, refl, refl) refl refl
potentials (suc (suc (suc zero))) l = potential 3 4 d_depths d_graph refl 3 _ 3 [] refl refl refl
potentials (suc (suc (suc (suc v)))) l = absurd (omega arith)

module _ (n : Netlist) (made : Made D n) where
  d_moved : (P : List Place → Type 0) → P d_graph → P (graph_of n D.sizes)
  d_moved P = subst P (sym (graph_is D n made D.sizes))

  pub d_rate : (p l : ℕ) → Coprime p l → 0 < l → p ≤ l → certified p l d_depths d_graph ≡ true → Exact p l d_graph d_cycle → IsRate (graph_of n D.sizes) p l
  d_rate p l coprime positive proper passes exact = d_moved (λ G. IsRate G p l) (is_rate p l coprime positive proper passes exact)

  pub d_shown : Shown 3 4 (graph_of n D.sizes) d_cycle
  d_shown = d_moved (λ G. Shown 3 4 G d_cycle) shown

  pub d_potential : (v : ℕ) → v < 4 → Potential 3 4 (graph_of n D.sizes) v (get_or d_potentials v (pos 0))
  d_potential v l = d_moved (λ G. Potential 3 4 G v (get_or d_potentials v (pos 0))) (potentials v l)

-- no place, no cycle
no_cycle : IsRate [] 1 1
no_cycle = record {
  coprime = λ d one other. eq-one_of_dvd-one one;
  positive = omega arith;
  proper = omega arith;
  bound = reaches 1 1 [] [] refl;
  reached = inl (refl, refl);
}

pub alone : (n : Netlist) → Made Alone n → IsRate (graph_of n []) 1 1
alone n made = subst (λ (G : List Place). IsRate G 1 1) (sym (graph_is Alone n made [])) no_cycle
