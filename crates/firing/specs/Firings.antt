-- How a marked graph runs: in each step its modules fire, all but those that wait for a token and those that are held. G is the list of places. Assumes nothing.
use Rattle.std.specs.Prelude.{ℕ, ◌+◌, ◌-◌, Bool, true, false, cond, not, ◌&&◌, ◌||◌, List, [], ◌∷◌, ◌==◌, nat_lt, slice_index_or}
use Rattle.marked.specs.declared.place.Place.{Place}

-- how often each module has fired
abbrev pub Firings : Type 0
Firings = ℕ → ℕ

-- the tokens now on a place: a firing where it starts puts one there, and a firing where it ends takes one
abbrev pub tokens_now : Firings → Place → ℕ
tokens_now x p = p.tokens + x p.from - x p.to

-- a module is ready if each place that leads to it has a token now
unfoldable pub ready : List Place → Firings → ℕ → Bool
ready [] x v = true
ready (p ∷ G) x v = (not (p.to == v) || nat_lt 0 (tokens_now x p)) && ready G x v

-- the modules held in a step: entry v tells of module v, and no module past the end is held
abbrev pub Hold : Type 0
Hold = List Bool

abbrev pub held : Hold → ℕ → Bool
held h v = slice_index_or h v false

-- some module is held
unfoldable pub holding : Hold → Bool
holding [] = false
holding (b ∷ h) = b || holding h

-- a step is free if no module is held; the shortest list that says so
abbrev pub free : Hold
free = []

-- in a step every ready module that is not held gains one firing, all at once
unfoldable pub step : List Place → Hold → Firings → Firings
step G h x v = cond (not (held h v) && ready G x v) (x v + 1) (x v)

-- the firings after a list of steps, the latest step first in the list; at first no module has fired
unfoldable pub firings : List Place → List Hold → Firings
firings G [] = λ _. 0
firings G (h ∷ s) = step G h (firings G s)

-- how many of the steps have a hold
unfoldable pub held_steps : List Hold → ℕ
held_steps [] = 0
held_steps (h ∷ s) = cond (holding h) 1 0 + held_steps s
