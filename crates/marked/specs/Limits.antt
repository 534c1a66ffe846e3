-- The limits that graphs keep. Names no `Graph`, so that its invariant can cite them. Assumes nothing.
use Rattle.std.specs.Prelude.{ℕ, ◌<◌, ◌≤◌, List, length}
use Rattle.std.specs.Int.{IsInRange}
use Rattle.marked.specs.declared.place.Place.{Place}
use Rattle.marked.specs.Graphs.{at}

-- each place starts at one of n modules
abbrev pub Starts : ℕ → List Place → Type 0
Starts n G = (p : ℕ) → p < length G → (at G p).from < n

-- each place ends at one of n modules
abbrev pub Ends : ℕ → List Place → Type 0
Ends n G = (p : ℕ) → p < length G → (at G p).to < n

-- no place holds more than 17 tokens
abbrev pub Light : List Place → Type 0
Light G = (p : ℕ) → p < length G → (at G p).tokens ≤ 17

-- n modules and the places G are a graph
pub record Fit (n : ℕ) (G : List Place) : Type 0 where
  pub some : IsInRange 1 64 n
  pub few : length G ≤ 384
  pub starts : Starts n G
  pub ends : Ends n G
  pub light : Light G
