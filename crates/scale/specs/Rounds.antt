-- What the rounds ask of their lists, and what they give. Assumes nothing.
use Rattle.std.specs.Prelude.{◌≡◌, ℕ, ◌*◌, ◌<◌, List, map, length}
use Rattle.scale.specs.Scales.{ScaleOf}
use Rattle.scale.specs.Walks.{EachOnce, walks}
use Rattle.scale.specs.Counts.{choices, counts, element, over_walks}

-- a weight for each ordered pair of the modules of es, and room for one element of each module
pub record Fitting {S : Type 0} (es scratch ws : List S) : Type 0 where
  pub weights : length ws ≡ length es * length es
  pub room : length scratch ≡ length es

-- out has at each module the choice over all walks of k moves that end there
abbrev pub AllWalks : {S : Type 0} → ScaleOf S → List S → List S → ℕ → List S → Type 0
AllWalks s es ws k out = (v : ℕ) → v < length es → element s out v ≡ over_walks s es ws k v

-- the walks which that choice is made over are every one that there is, each once
abbrev pub EveryWalk : ℕ → ℕ → Type 0
EveryWalk n k = (v : ℕ) → v < n → EachOnce n k v (walks n k v)

-- the choice is the same in whatever order the walks are listed
abbrev pub AnyOrder : {S : Type 0} → ScaleOf S → List S → List S → ℕ → List S → Type 0
AnyOrder s es ws k out = (v : ℕ) → v < length es → (ps : List (List ℕ)) → EachOnce (length es) k v ps → element s out v ≡ choices s (map (counts s es ws) ps)
