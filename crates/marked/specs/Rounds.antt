-- Words of the program's own working: levels, rounds, the way back, lowest terms. Only contracts of private functions cite them.
-- No value of a level is above 0, so the rules speak of the natural number by which it is below. Assumes nothing.
use Rattle.std.specs.Prelude.{◌≡◌, ℕ, suc, ◌+◌, ◌*◌, ◌<◌, ◌≤◌, true, List, [], length, ℤ, pos, negsuc, neg_ℤ, ◌≤ℤ◌, is_some, Some, None, Option, ◌≢◌, slice_index_or}
use Rattle.marked.specs.declared.place.Place.{Place}
use Rattle.marked.specs.declared.weighed.Weighed.{Weighed}
use Rattle.marked.specs.declared.level.Arrival.{Arrival}
use Rattle.marked.specs.declared.level.Level.{Level}
use Rattle.marked.specs.declared.trail.Stop.{Stop}
use Rattle.marked.specs.declared.trail.Trail.{Trail}
use Rattle.marked.specs.Graphs.{at}
use Rattle.marked.specs.Rates.{Coprime}
use Rattle.marked.specs.Answers.{Found}

-- the places of a weighed graph, and the one numbered p
abbrev pub places_of : Weighed → List Place
places_of w = w.graph.places.now

abbrev pub place_of : Weighed → ℕ → Place
place_of w p = at (places_of w) p

-- how level 0 reaches each module
abbrev pub at_start : Arrival
at_start = record { value = pos 0; via = None }

-- how a level reaches module v
abbrev pub arrival : Level → ℕ → Arrival
arrival l v = slice_index_or l.arrivals v at_start

-- the value of module v at a level
abbrev pub value : Level → ℕ → ℤ
value l v = (arrival l v).value

-- how far an integer is below 0
abbrev pub depth : ℤ → ℕ
depth (pos n) = 0
depth (negsuc n) = suc n

-- how far the value of module v is below 0
abbrev pub depth_at : Level → ℕ → ℕ
depth_at l v = depth (value l v)

-- the place by which the level lowered module v, if it did
abbrev pub via_at : Level → ℕ → Option ℕ
via_at l v = (arrival l v).via

-- the level lowered module v
abbrev pub Lowered : Level → ℕ → Type 0
Lowered l v = is_some (via_at l v) ≡ true

-- module v, at the depth d in a level after `old`: it is as it was, or the place p has lowered it
abbrev pub Entry : Weighed → Level → ℕ → ℕ → Option ℕ → Type 0
Entry w old v d None = d ≡ depth_at old v
Entry w old v d (Some p) =
    (p < length (places_of w)) × ((place_of w p).to ≡ v) × (depth_at old v < d) × (d + w.target.b * (place_of w p).tokens ≡ depth_at old (place_of w p).from + w.target.a)

-- the first i places have been relaxed, from `old` to `new`
pub record Relaxed (w : Weighed) (i : ℕ) (old new : Level) : Type 0 where
  pub entries : (v : ℕ) → v < 64 → Entry w old v (depth_at new v) (via_at new v)
  pub under : (v : ℕ) → v < 64 → value new v ≤ℤ pos 0
  pub covered : (p : ℕ) → p < i → depth_at old (place_of w p).from + w.target.a ≤ depth_at new (place_of w p).to + w.target.b * (place_of w p).tokens

-- the range of the values: no sum with one of them wraps
abbrev pub Low : Level → Type 0
Low l = (v : ℕ) → v < 64 → (neg_ℤ (pos 4096) ≤ℤ value l v) × (value l v ≤ℤ pos 0)

-- level k of a list of levels
abbrev pub blank : Level
blank = record { arrivals = [] }

abbrev pub level : List Level → ℕ → Level
level ls k = slice_index_or ls k blank

-- level 0 is flat, and each level up to k comes from the one before by a round over all places
pub record Rounds (w : Weighed) (ls : List Level) (k : ℕ) : Type 0 where
  pub flat : (v : ℕ) → v < 64 → value (level ls 0) v ≡ pos 0
  pub rounds : (i j : ℕ) → j ≡ suc i → j ≤ k → Relaxed w (length (places_of w)) (level ls i) (level ls j)

-- the place p leads from x to y, and explains y's depth at the level `new` by x's at the level `old`
pub record Step (w : Weighed) (old new : Level) (x y p : ℕ) : Type 0 where
  pub inside : p < length (places_of w)
  pub leaves : (place_of w p).from ≡ x
  pub enters : (place_of w p).to ≡ y
  pub sinks : depth_at new y + w.target.b * (place_of w p).tokens ≡ depth_at old x + w.target.a

-- a stop that no trail has
abbrev pub nowhere : Stop
nowhere = record { passes = 0; place = 0 }

-- the module at level i, and the place by which it was entered
abbrev pub stop : Trail → ℕ → ℕ
stop t i = (slice_index_or t.stops i nowhere).passes

abbrev pub taken : Trail → ℕ → ℕ
taken t i = (slice_index_or t.stops i nowhere).place

-- the trail is a way back from its peak to level k, along places that lowered the modules
pub record Back (w : Weighed) (ls : List Level) (k : ℕ) (t : Trail) : Type 0 where
  pub inside : (i : ℕ) → k ≤ i → i ≤ t.peak → stop t i < w.graph.modules
  pub lowered : (i : ℕ) → k ≤ i → i ≤ t.peak → 0 < i → Lowered (level ls i) (stop t i)
  pub steps : (i j : ℕ) → j ≡ suc i → k ≤ i → j ≤ t.peak → Step w (level ls i) (level ls j) (stop t i) (stop t j) (taken t j)

-- the modules at the levels from k to the peak are all different
abbrev pub Apart : ℕ → Trail → Type 0
Apart k t = (i j : ℕ) → k ≤ i → i < j → j ≤ t.peak → stop t i ≢ stop t j

-- what a way back from level `peak` answers: it closes a slow cycle, or there are more modules than rounds
abbrev pub Tried : Weighed → ℕ → List ℕ → List ℕ → Option ℕ → Type 0
Tried w peak cs cs' None = (peak < w.graph.modules) × (cs' ≡ cs)
Tried w peak cs cs' (Some k) = Found w.graph.modules w.target.a w.target.b (places_of w) cs cs' k

-- p/l is x/y in lowest terms
pub record Reduced (x y p l : ℕ) : Type 0 where
  pub coprime : Coprime p l
  pub same : p * y ≡ l * x
  pub positive : 0 < l
  pub short : l ≤ y
