-- A graph to try the theorems on: two modules in a ring, with one token, which waits at module 1 at first. Assumes nothing.
use Rattle.std.specs.Prelude.{ℕ, true, List, [], ◌∷◌}
use Rattle.marked.specs.declared.place.Place.{Place}
use Rattle.firing.specs.Firings.{Hold}

abbrev pub ring : List Place
ring = record { from = 0; to = 1; tokens = 1 } ∷ record { from = 1; to = 0; tokens = 0 } ∷ []

-- its one way round
abbrev pub round : List ℕ
round = 0 ∷ 1 ∷ []

-- a step in which module 0 is held
abbrev pub hold_0 : Hold
hold_0 = true ∷ []
