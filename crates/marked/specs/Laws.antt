-- Laws of cycles, for whoever argues about all of them: the short ones decide. Assumes nothing.
use Rattle.std.specs.Prelude.{◌≡◌, ℕ, ◌<◌, ◌≤◌, List, length, slice_index}
use Rattle.marked.specs.declared.place.Place.{Place}
use Rattle.marked.specs.Graphs.{Cycle, Simple, Slow}
use Rattle.marked.specs.Limits.{Starts}

-- each place of the walk qs is one of the walk ps
abbrev pub Among : List ℕ → List ℕ → Type 0
Among qs ps = (i : ℕ) → i < length qs → (j : ℕ) × (j < length ps) × (slice_index ps j ≡ slice_index qs i)

-- some slow cycle that passes no module twice lies inside the walk ps
pub record SlowInside (a b : ℕ) (G : List Place) (ps : List ℕ) : Type 0 where
  pub walk : List ℕ
  pub among : Among walk ps
  pub cycle : Cycle G walk
  pub simple : Simple G walk
  pub slow : Slow a b G walk

-- every slow cycle has a simple slow cycle inside
abbrev pub SlowHasSimple : Type 0
SlowHasSimple = (a b : ℕ) (G : List Place) (ps : List ℕ) → Cycle G ps → Slow a b G ps → SlowInside a b G ps

-- a simple cycle has no more places than the graph has modules
abbrev pub SimpleIsShort : Type 0
SimpleIsShort = (n : ℕ) (G : List Place) (ps : List ℕ) → Starts n G → Cycle G ps → Simple G ps → length ps ≤ n
