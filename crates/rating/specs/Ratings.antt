-- What a rating answers and leaves. Assumes nothing.
use Rattle.std.specs.Prelude.{◌≡◌, ℕ, suc, ◌-◌, ◌*◌, ◌<◌, ◌≤◌, cond, ◌||◌, ◌⊎◌, List, map, length, take, ℤ, pos, neg_ℤ, ◌≤ℤ◌, Some, None, Ok, Err, Option, Result, nat_lt, slice_index, slice_index_or}
use Rattle.checking.specs.Verdicts.{Passed}
use Rattle.marked.specs.declared.place.Place.{Place}
use Rattle.marked.specs.Graphs.{Potential}
use Rattle.marked.specs.Rates.{IsRate, Shown}
use Rattle.netlist.specs.declared.refusal.Cause.TheVariants.{ListTooShort}
use Rattle.netlist.specs.declared.refusal.Refusal.{Refusal}
use Rattle.netlist.specs.declared.netlist.Netlist.{Netlist}
use Rattle.netlist.specs.Holds.{channels, modules}
use Rattle.rating.specs.declared.rating.Rating.{Rating}
use Rattle.rating.specs.Extended.{graph_of}
use Rattle.rating.specs.Sizings.{sizing_fault}

-- why a rating of n modules and e channels is refused: for its sizing first, then for a list with fewer than n entries
abbrev pub with_rooms : ℕ → ℕ → ℕ → Option Refusal → Option Refusal
with_rooms n room space (Some x) = Some x
with_rooms n room space None = cond (nat_lt room n || nat_lt space n) (Some (record { cause = ListTooShort; place = n })) None

abbrev pub rating_fault : Netlist → List ℕ → ℕ → ℕ → Option Refusal
rating_fault n sizing room space = with_rooms (modules n) room space (sizing_fault (channels n) sizing)

-- the first k entries of a list are the place numbers of a cycle that shows the rate p/l of the graph G: the number of a place is
-- one above its index in G
pub record ShowsCycle (G : List Place) (p l k : ℕ) (cycle : List ℕ) : Type 0 where
  pub walk : List ℕ
  pub shown : Shown p l G walk
  pub numbers : take k cycle ≡ map suc walk

-- p/l is the rate of the graph G of n modules, and the first k entries of a list become the indices of a cycle that shows it, none
-- at rate 1
pub record RatedCycle (n : ℕ) (G : List Place) (p l k : ℕ) (cycle cycle' : List ℕ) : Type 0 where
  pub is_rate : IsRate G p l
  pub short : l ≤ n
  pub shown : ((p ≡ l) × (k ≡ 0)) ⊎ ((p < l) × (k ≤ n) × Shown p l G (take k cycle'))
  pub kept : (i : ℕ) → k ≤ i → slice_index cycle' i ≡ slice_index cycle i

-- p/l is the rate of the graph G of n modules; the cycle list holds k place numbers that show it, none at rate 1; the potential
-- list holds the potential of each module, module v at its entry v - 1; both keep the rest of what they held before
pub record Rates (n : ℕ) (G : List Place) (p l k : ℕ) (cycle cycle' : List ℕ) (potentials potentials' : List ℤ) : Type 0 where
  pub is_rate : IsRate G p l
  pub short : l ≤ n
  pub shown : ((p ≡ l) × (k ≡ 0)) ⊎ ((p < l) × (k ≤ n) × ShowsCycle G p l k cycle')
  pub cycle_kept : (i : ℕ) → k ≤ i → slice_index cycle' i ≡ slice_index cycle i
  pub potential : (v : ℕ) → v < n → Potential p l G v (slice_index_or potentials' v (pos 0))
  pub range : (v : ℕ) → v < n → (neg_ℤ (pos (p * (n - 1))) ≤ℤ slice_index_or potentials' v (pos 0)) × (slice_index_or potentials' v (pos 0) ≤ℤ pos 0)
  pub potentials_kept : (v : ℕ) → n ≤ v → slice_index_or potentials' v (pos 0) ≡ slice_index_or potentials v (pos 0)

-- what every rating holds: a checked netlist, a sizing of it, and the rate of their extended graph; that there are potentials is
-- enough for those who made no use of the lists
pub record HoldsRate (r : Rating) : Type 0 where
  pub passed : Passed r.netlist.now
  pub sized : sizing_fault (channels r.netlist.now) r.sizing.now ≡ None
  pub is_rate : IsRate (graph_of r.netlist.now r.sizing.now) r.rate.0 r.rate.1
  pub short : r.rate.1 ≤ modules r.netlist.now
  pub potential : (v : ℕ) → v < modules r.netlist.now →
      (z : ℤ) × Potential r.rate.0 r.rate.1 (graph_of r.netlist.now r.sizing.now) v z
      × (neg_ℤ (pos (r.rate.0 * (modules r.netlist.now - 1))) ≤ℤ z) × (z ≤ℤ pos 0)

-- a rating of this netlist and this sizing, and what its making left in the two lists
pub record Accepted (n : Netlist) (sizing cycle cycle' : List ℕ) (potentials potentials' : List ℤ) (r : Rating) : Type 0 where
  pub no_fault : rating_fault n sizing (length cycle) (length potentials) ≡ None
  pub netlist : r.netlist.now ≡ n
  pub sizes : r.sizing.now ≡ sizing
  pub holds : HoldsRate r
  pub lists : Rates (modules n) (graph_of n sizing) r.rate.0 r.rate.1 r.length cycle cycle' potentials potentials'

-- what `rate` answers: refused exactly for its fault, and then both lists are as they were
abbrev pub RateAnswer : Netlist → List ℕ → List ℕ → List ℕ → List ℤ → List ℤ → Result Rating Refusal → Type 0
RateAnswer n sizing cycle cycle' potentials potentials' (Ok r) = Accepted n sizing cycle cycle' potentials potentials' r
RateAnswer n sizing cycle cycle' potentials potentials' (Err x) =
    (rating_fault n sizing (length cycle) (length potentials) ≡ Some x) × (cycle' ≡ cycle) × (potentials' ≡ potentials)
