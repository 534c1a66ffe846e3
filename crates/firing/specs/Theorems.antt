-- The words of the theorems on firing counts, and what they ask of a graph. G is the list of places, and n the number of modules. Assumes nothing.
-- Of a list s of steps, t is its length, h the number of its steps with a hold, and x the firings of a module after it.
use Rattle.std.specs.Prelude.{◌≡◌, ℕ, ◌+◌, ◌-◌, ◌*◌, ◌<◌, ◌≤◌, true, false, ◌⊎◌, List, length, ℤ, pos, neg_ℤ, ◌≤ℤ◌}
use Rattle.marked.specs.declared.place.Place.{Place}
use Rattle.marked.specs.Graphs.{at, Leads, Potential}
use Rattle.marked.specs.Limits.{Starts}
use Rattle.marked.specs.Rates.{IsRate}
use Rattle.firing.specs.Firings.{Firings, tokens_now, Hold, held, step, firings, held_steps}

-- no place has given more tokens than it got: its tokens now are never negative
abbrev pub Safe : List Place → Firings → Type 0
Safe G x = (p : ℕ) → p < length G → x (at G p).to ≤ x (at G p).from + (at G p).tokens

-- each place that leads to the module v has a token now
abbrev pub Ready : List Place → Firings → ℕ → Type 0
Ready G x v = (p : ℕ) → p < length G → (at G p).to ≡ v → 0 < tokens_now x (at G p)

-- what a step does to the module v: it fires once if it is ready and not held, and else not at all
pub record ByRule (G : List Place) (h : Hold) (x : Firings) (v : ℕ) : Type 0 where
  pub fires : held h v ≡ false → Ready G x v → step G h x v ≡ x v + 1
  pub waits : (Ready G x v → ⊥) → step G h x v ≡ x v
  pub stays : held h v ≡ true → step G h x v ≡ x v

-- m is the least of one firing more of the module v and of the firings that the places to v allow: those where the place starts, plus its tokens
pub record Least (G : List Place) (x : Firings) (v m : ℕ) : Type 0 where
  pub one_more : m ≤ x v + 1
  pub bound : (p : ℕ) → p < length G → (at G p).to ≡ v → m ≤ x (at G p).from + (at G p).tokens
  pub reached : (m ≡ x v + 1) ⊎ ((p : ℕ) × (p < length G) × ((at G p).to ≡ v) × (m ≡ x (at G p).from + (at G p).tokens))

-- no module has fired more often in x than in y
abbrev pub NotAhead : Firings → Firings → Type 0
NotAhead x y = (v : ℕ) → x v ≤ y v

-- the n modules have fired as often in x as in y
abbrev pub Alike : ℕ → Firings → Firings → Type 0
Alike n x y = (v : ℕ) → v < n → x v ≡ y v

-- every module keeps up with a firings in b steps, but for n steps at the start and those with a hold: a (t + 1) ≤ b x + a (h + n)
abbrev pub KeepsUp : ℕ → ℕ → ℕ → List Place → Type 0
KeepsUp n a b G = (s : List Hold) (v : ℕ) → v < n → a * (length s + 1) ≤ b * firings G s v + a * (held_steps s + n)

-- no module is more than d firings ahead of a firings in b steps: b x ≤ a t + b d
abbrev pub StaysNear : ℕ → ℕ → ℕ → ℕ → List Place → Type 0
StaysNear n a b d G = (s : List Hold) (v : ℕ) → v < n → b * firings G s v ≤ a * length s + b * d

-- from the step m on no module keeps up with a firings in b steps, not even if every step was free: b x + a n < a (t + 1)
abbrev pub FallsBehind : ℕ → ℕ → ℕ → ℕ → List Place → Type 0
FallsBehind n a b m G = (s : List Hold) (v : ℕ) → v < n → m ≤ length s → b * firings G s v + a * n < a * (length s + 1)

-- what is known of a graph once its rate P/L has been found
pub record RatedGraph (n : ℕ) (G : List Place) (P L : ℕ) : Type 0 where
  -- the limits of a graph say it
  pub starts : Starts n G
  -- the call that finds the rate answers these: the rate, the potentials that it leaves, and their range
  pub is_rate : IsRate G P L
  pub potential : ℕ → ℤ
  pub potentials : (v : ℕ) → v < n → Potential P L G v (potential v)
  pub range : (v : ℕ) → v < n → neg_ℤ (pos (P * (n - 1))) ≤ℤ potential v

-- what is known of a graph that is in one piece, rated or not
pub record Connected (n : ℕ) (G : List Place) (Q : ℕ) : Type 0 where
  -- the limits of a graph say it
  pub starts : Starts n G
  -- a sizing says it: a place of a queue of size q has at most q + 1 tokens, and Q is the largest size
  pub few : (p : ℕ) → p < length G → (at G p).tokens ≤ Q + 1
  -- a check that the graph is in one piece says it: a walk that passes no module twice has fewer places than there are modules
  pub joined : (u v : ℕ) → u < n → v < n → (ps : List ℕ) × Leads G u ps v × (length ps ≤ n - 1)
