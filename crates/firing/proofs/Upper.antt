-- The bound from above: the modules of a cycle share its tokens, and no module is far ahead of them. Assumes nothing.
use Rattle.std.proofs.Common.{◌≡◌, ℕ, ◌+◌, ◌-◌, ◌*◌, ◌<◌, ◌≤◌, List, [], ◌∷◌, length, ap, inl, inr, mul-le-mul_right, arith}
use Rattle.marked.specs.declared.place.Place.{Place}
use Rattle.marked.specs.Graphs.{at, Leads, Cycle, Slow, tokens_on}
use Rattle.marked.specs.Rates.{IsRate}
use Rattle.marked.proofs.Shortening.{slow_has_simple, simple_is_short}
use Rattle.firing.specs.Firings.{Firings, Hold, step, firings}
use Rattle.firing.specs.Theorems.{Safe, Connected, StaysNear, FallsBehind}
use Rattle.firing.proofs.Numbers.{reduced, overtaken}
use Rattle.firing.proofs.Steps.{grows, step_le, safety}

module _ (G : List Place) where
  -- the firings of the modules where the places of a walk start, and where they end, all together
  at_starts : Firings → List ℕ → ℕ
  at_starts x [] = 0
  at_starts x (p ∷ ps) = x (at G p).from + at_starts x ps

  at_ends : Firings → List ℕ → ℕ
  at_ends x [] = 0
  at_ends x (p ∷ ps) = x (at G p).to + at_ends x ps

  -- each place of a walk starts where the one before ends, so the two differ by the walk's own ends
  shifted : (x : Firings) (u v : ℕ) (ps : List ℕ) → Leads G u ps v → x u + at_ends x ps ≡ at_starts x ps + x v
  unfolding at_ends at_starts
  shifted x u v [] e = omega (arith, ap x e)
  shifted x u v (p ∷ ps) e = omega (arith, ap x e.1, shifted x (at G p).to v ps e.2)

  -- in a step the modules of a walk fire no more often than it has tokens, all together
  step_ends : (h : Hold) (x : Firings) → Safe G x → (u v : ℕ) (ps : List ℕ) → Leads G u ps v → at_ends (step G h x) ps ≤ at_starts x ps + tokens_on G ps
  unfolding at_ends at_starts
  step_ends h x safe u v [] e = omega arith
  step_ends h x safe u v (p ∷ ps) e = omega (arith, step_le G h x safe p e.0, step_ends h x safe (at G p).to v ps e.2)

  -- at first nothing has fired
  none_yet : (ps : List ℕ) → at_ends (λ _. 0) ps ≡ 0
  unfolding at_ends
  none_yet [] = omega arith
  none_yet (p ∷ ps) = omega (arith, none_yet ps)

  -- so the modules of a cycle fire in t steps no more than t times as often
  share : (hub : ℕ) (c : List ℕ) → Leads G hub c hub → (s : List Hold) → at_starts (firings G s) c ≤ tokens_on G c * length s
  unfolding firings
  share hub c e [] = omega (arith, none_yet c, shifted (λ _. 0) hub hub c e)
  share hub c e (h ∷ s) =
      omega (arith, share hub c e s, step_ends h (firings G s) (safety G s) hub hub c e, shifted (step G h (firings G s)) hub hub c e)

  -- a module is ahead of another by no more than the tokens on a walk
  ahead : (x : Firings) → Safe G x → (u v : ℕ) (ps : List ℕ) → Leads G u ps v → x v ≤ x u + tokens_on G ps
  ahead x safe u v [] e = omega (arith, ap x e)
  ahead x safe u v (p ∷ ps) e = omega (arith, ap x e.1, safe p e.0, ahead x safe (at G p).to v ps e.2)

  -- a module fires at most once in a step
  once : (s : List Hold) (v : ℕ) → firings G s v ≤ length s
  unfolding firings
  once [] v = omega arith
  once (h ∷ s) v = omega (arith, once s v, grows G h (firings G s) v)

module _ (n Q : ℕ) (G : List Place) (k : Connected n G Q) where
  -- a walk has few tokens, so no module is far ahead of another, nor of all of a walk's together
  few_on : (u v : ℕ) (ps : List ℕ) → Leads G u ps v → tokens_on G ps ≤ length ps * (Q + 1)
  few_on u v [] e = omega arith
  few_on u v (p ∷ ps) e = omega (arith, k.few p e.0, few_on (at G p).to v ps e.2)

  near : (x : Firings) → Safe G x → (u v : ℕ) → u < n → v < n → x v ≤ x u + (n - 1) * (Q + 1)
  near x safe u v u_in v_in =
      let w = k.joined u v u_in v_in in
      omega (arith, ahead G x safe u v w.0 w.1, few_on u v w.0 w.1, mul-le-mul_right (Q + 1) w.2)

  near_all : (x : Firings) → Safe G x → (v : ℕ) → v < n → (u w : ℕ) (c : List ℕ) → Leads G u c w → length c * x v ≤ at_starts G x c + length c * ((n - 1) * (Q + 1))
  unfolding at_starts
  near_all x safe v v_in u w [] e = omega arith
  near_all x safe v v_in u w (p ∷ c) e =
      omega (arith, near x safe (at G p).from v (k.starts p e.0) v_in, near_all x safe v v_in (at G p).to w c e.2)

  pub average : (c : List ℕ) → Cycle G c → StaysNear n (tokens_on G c) (length c) ((n - 1) * (Q + 1)) G
  average c cycle s v v_in =
      let e = cycle.closed in
      omega (arith, near_all (firings G s) (safety G s) v v_in cycle.hub cycle.hub c e, share G cycle.hub c e s)

  pub upper : (P L : ℕ) → IsRate G P L → StaysNear n P L ((n - 1) * (Q + 2)) G
  upper P L rate s v v_in =
      elim rate.reached [
        | inl one ↦ omega (arith, once G s v, ap (λ l. l * firings G s v) one.1, ap (λ p. p * length s) one.0)
        | inr c ↦ reduced P L (length c.0) (tokens_on G c.0) (length s) (firings G s v) (n - 1) Q c.1.some c.2 (average c.0 c.1 s v v_in)
      ]

  pub missed : (a b : ℕ) → a ≤ b → (c : List ℕ) → Cycle G c → Slow a b G c → FallsBehind n a b (b * n * (n - 1) * (Q + 3) + 1) G
  missed a b less c cycle slow s v v_in late =
      let i = slow_has_simple a b G c cycle slow in
      let short = simple_is_short n G i.walk k.starts i.cycle i.simple in
      overtaken (tokens_on G i.walk) (length i.walk) Q a b (firings G s v) (length s) (n - 1) n (omega arith) short less i.slow late
      (average i.walk i.cycle s v v_in)
