-- What the calls leave in the lists that they are handed. n is the number of modules, and G the list of places. Assumes nothing.
use Rattle.std.specs.Prelude.{◌≡◌, ℕ, ◌-◌, ◌*◌, ◌<◌, ◌≤◌, ◌⊎◌, List, take, ℤ, pos, neg_ℤ, ◌≤ℤ◌, Some, None, Option, slice_index, slice_index_or}
use Rattle.marked.specs.declared.place.Place.{Place}
use Rattle.marked.specs.Graphs.{Cycle, LowestFirst, Potential, Reaches, Simple, Slow}
use Rattle.marked.specs.Rates.{IsRate, Shown}

-- no cycle is slow for a/b: the first n entries become the potentials
pub record Settled (n a b : ℕ) (G : List Place) (before after : List ℤ) : Type 0 where
  pub reaches : Reaches a b G
  pub potentials : (v : ℕ) → v < n → Potential a b G v (slice_index_or after v (pos 0))
  pub range : (v : ℕ) → v < n → (neg_ℤ (pos (a * (n - 1))) ≤ℤ slice_index_or after v (pos 0)) × (slice_index_or after v (pos 0) ≤ℤ pos 0)
  pub kept : (v : ℕ) → n ≤ v → slice_index_or after v (pos 0) ≡ slice_index_or before v (pos 0)

-- a cycle is slow for a/b: the first k entries become one
pub record Found (n a b : ℕ) (G : List Place) (before after : List ℕ) (k : ℕ) : Type 0 where
  pub cycle : Cycle G (take k after)
  pub simple : Simple G (take k after)
  pub lowest_first : LowestFirst G (take k after)
  pub slow : Slow a b G (take k after)
  pub short : k ≤ n
  pub kept : (i : ℕ) → k ≤ i → slice_index after i ≡ slice_index before i

-- what `slow_cycle` answers, with the potentials vs and the cycle list cs before and after
abbrev pub Searched : ℕ → ℕ → ℕ → List Place → List ℤ → List ℤ → List ℕ → List ℕ → Option ℕ → Type 0
Searched n a b G vs vs' cs cs' None = Settled n a b G vs vs' × (cs' ≡ cs)
Searched n a b G vs vs' cs cs' (Some k) = Found n a b G cs cs' k × (vs' ≡ vs)

-- what `rate` answers: the rate p/l, and a cycle of k places that shows it, or none at the rate 1
pub record Measured (n : ℕ) (G : List Place) (p l k : ℕ) (vs vs' : List ℤ) (cs cs' : List ℕ) : Type 0 where
  pub is_rate : IsRate G p l
  pub short : l ≤ n
  pub shown : ((k ≡ 0) × (p ≡ 1) × (l ≡ 1)) ⊎ ((k ≤ n) × (p < l) × Shown p l G (take k cs'))
  pub settled : Settled n p l G vs vs'
  pub kept : (i : ℕ) → k ≤ i → slice_index cs' i ≡ slice_index cs i
