-- Marked graphs: places, walks, cycles, their tokens and weights. Assumes nothing.
use Rattle.std.specs.Prelude.{◌≡◌, ℕ, ◌+◌, ◌*◌, ◌<◌, ◌≤◌, List, [], ◌∷◌, length, ℤ, pos, ◌+ℤ◌, ◌-ℤ◌, ◌≤ℤ◌, ◌≢◌, slice_index, slice_index_or}
use Rattle.marked.specs.declared.place.Place.{Place}

-- the place numbered p, from 0, in a graph's list G of places
abbrev pub at : List Place → ℕ → Place
at G p = slice_index_or G p (record { from = 0; to = 0; tokens = 0 })

-- the walk, a list of place numbers, leads from module u to module v: each place starts where the one before ends
abbrev pub Leads : List Place → ℕ → List ℕ → ℕ → Type 0
Leads G u [] v = u ≡ v
Leads G u (p ∷ ps) v = (p < length G) × ((at G p).from ≡ u) × Leads G (at G p).to ps v

-- a cycle is a closed walk of one or more places
pub record Cycle (G : List Place) (ps : List ℕ) : Type 0 where
  pub some : 0 < length ps
  pub hub : ℕ
  pub closed : Leads G hub ps hub

-- the module where the place at index i of a walk starts
abbrev pub start : List Place → List ℕ → ℕ → ℕ
start G ps i = (at G (slice_index ps i)).from

-- a walk is simple if no two of its places start at the same module
abbrev pub Simple : List Place → List ℕ → Type 0
Simple G ps = (i j : ℕ) → i < j → j < length ps → start G ps i ≢ start G ps j

-- no place of the walk starts at a lower module than its first
abbrev pub LowestFirst : List Place → List ℕ → Type 0
LowestFirst G ps = (i : ℕ) → i < length ps → start G ps 0 ≤ start G ps i

-- the tokens that a walk's places hold; the mean of a walk is this number over its length
abbrev pub tokens_on : List Place → List ℕ → ℕ
tokens_on G [] = 0
tokens_on G (p ∷ ps) = (at G p).tokens + tokens_on G ps

-- the walk's mean is below a/b
abbrev pub Slow : ℕ → ℕ → List Place → List ℕ → Type 0
Slow a b G ps = b * tokens_on G ps < a * length ps

-- no cycle's mean is below a/b
abbrev pub Reaches : ℕ → ℕ → List Place → Type 0
Reaches a b G = (ps : List ℕ) → Cycle G ps → a * length ps ≤ b * tokens_on G ps

-- what a place weighs at the target a/b
abbrev pub weight : ℕ → ℕ → Place → ℤ
weight a b p = pos (b * p.tokens) -ℤ pos a

-- what a walk weighs: the sum over its places
abbrev pub weights : ℕ → ℕ → List Place → List ℕ → ℤ
weights a b G [] = pos 0
weights a b G (p ∷ ps) = weight a b (at G p) +ℤ weights a b G ps

-- z is the potential of module v: the least of 0 and the weights of all walks to v (the walk of no place weighs 0)
pub record Potential (a b : ℕ) (G : List Place) (v : ℕ) (z : ℤ) : Type 0 where
  pub source : ℕ
  pub walk : List ℕ
  pub leads : Leads G source walk v
  pub reached : z ≡ weights a b G walk
  pub bound : (u : ℕ) (ps : List ℕ) → Leads G u ps v → z ≤ℤ weights a b G ps
