-- What one step does, and what follows for a list of steps. Assumes nothing.
use Rattle.std.proofs.Common.{◌≡◌, ℕ, zero, suc, ◌+◌, ◌-◌, ◌<◌, ◌≤◌, true, false, not, eqb, ltb, ◌⊎◌, List, [], ◌∷◌, length, replicate, refl, ap, inl, inr, arith}
use lib.ListN.{length-replicate}
use Rattle.std.proofs.lemmas.Bool.{cond_both, eqb-true, cases_lt, cases_Bool, true≢false, both_ways, and_parts, and_cases, or_cases, or_parts, not-true, not-false, ltb-true, ltb-false, eq-eqb}
use Rattle.marked.specs.declared.place.Place.{Place}
use Rattle.marked.specs.Graphs.{at}
use Rattle.marked.specs.Limits.{Starts}
use Rattle.firing.specs.Firings.{Firings, tokens_now, ready, Hold, held, holding, free, step, firings, held_steps}
use Rattle.firing.specs.Theorems.{Safe, Ready, ByRule, Least, NotAhead, Alike}

-- the test that a module is ready, and the fact
ready_fact : (G : List Place) (x : Firings) (v : ℕ) → ready G x v ≡ true → Ready G x v
unfolding ready
ready_fact [] x v e p lt to_v = absurd (omega arith)
ready_fact (q ∷ G) x v e zero lt to_v =
    elim (or_cases _ _ (and_parts _ _ e).0) [
      | inl passes ↦ absurd (both_ways _ (not-true _ passes) (eq-eqb _ _ to_v))
      | inr some ↦ ltb-true _ _ some
    ]
ready_fact (q ∷ G) x v e (suc p) lt to_v = ready_fact G x v (and_parts _ _ e).1 p (omega arith) to_v

-- a place that leads to the module v and has no token now
abbrev Blocks : List Place → Firings → ℕ → Type 0
Blocks G x v = (p : ℕ) × (p < length G) × ((at G p).to ≡ v) × (tokens_now x (at G p) ≡ 0)

-- a module that is not ready is blocked
blocks : (G : List Place) (x : Firings) (v : ℕ) → ready G x v ≡ false → Blocks G x v
unfolding ready
blocks [] x v e = absurd (true≢false e)
blocks (q ∷ G) x v e =
    elim (and_cases _ _ e) [
      | inl here ↦ (let parts = or_parts (not (eqb q.to v)) (ltb 0 (tokens_now x q)) here in (0, omega arith, eqb-true _ _ (not-false _ parts.0), omega (arith, ltb-false 0 (tokens_now x q) parts.1)))
      | inr there ↦ (let b = blocks G x v there in (suc b.0, omega (arith, b.1), b.2, b.3))
    ]

-- a module either fires, being ready and not held, or is blocked or held and stays as it is
step_cases : (G : List Place) (h : Hold) (x : Firings) (v : ℕ) →
    ((held h v ≡ false) × Ready G x v × (step G h x v ≡ x v + 1)) ⊎ (((held h v ≡ true) ⊎ Blocks G x v) × (step G h x v ≡ x v))
unfolding step
step_cases G h x v =
    elim (cases_Bool (held h v)) [
      | inl k ↦ inr (inl k, rw k)
      | inr k ↦ elim (cases_Bool (ready G x v)) [ inl e ↦ inl (k, ready_fact G x v e, rw (k, e)) | inr e ↦ inr (inr (blocks G x v e), rw (k, e)) ]
    ]

not_blocked : (G : List Place) (x : Firings) (v : ℕ) → Blocks G x v → Ready G x v → ⊥
not_blocked G x v b r = omega (arith, b.3, r b.0 b.1 b.2)

pub by_rule : (G : List Place) (h : Hold) (x : Firings) (v : ℕ) → ByRule G h x v
by_rule G h x v =
    elim (step_cases G h x v) [
      | inl go ↦ record { fires = λ _ _. go.2; waits = λ not_ready. absurd (not_ready go.1); stays = λ k. absurd (both_ways _ go.0 k) }
      | inr stop ↦ record {
        fires = λ k r. elim stop.0 [ inl k' ↦ absurd (both_ways _ k k') | inr b ↦ absurd (not_blocked G x v b r) ];
        waits = λ _. stop.1;
        stays = λ _. stop.1;
      }
    ]

-- a step loses no firing, and gains one at most
pub grows : (G : List Place) (h : Hold) (x : Firings) (v : ℕ) → (x v ≤ step G h x v) × (step G h x v ≤ x v + 1)
grows G h x v = elim (step_cases G h x v) [ inl go ↦ omega (arith, go.2) | inr stop ↦ omega (arith, stop.1) ]

-- a step takes a module no further than each place that leads to it allows
pub step_le : (G : List Place) (h : Hold) (x : Firings) → Safe G x → (p : ℕ) → p < length G → step G h x (at G p).to ≤ x (at G p).from + (at G p).tokens
step_le G h x safe p lt =
    elim (step_cases G h x (at G p).to) [ inl go ↦ omega (arith, go.2, go.1 p lt refl) | inr stop ↦ omega (arith, stop.1, safe p lt) ]

pub safety : (G : List Place) (s : List Hold) → Safe G (firings G s)
unfolding firings
safety G [] p lt = omega arith
safety G (h ∷ s) p lt = omega (arith, step_le G h (firings G s) (safety G s) p lt, grows G h (firings G s) (at G p).from)

-- in a free step each module is free
none_held : (h : Hold) (v : ℕ) → holding h ≡ false → held h v ≡ false
unfolding holding
none_held [] v e = refl
none_held (b ∷ h) zero e = (or_parts b (holding h) e).0
none_held (b ∷ h) (suc v) e = none_held h v (or_parts b (holding h) e).1

pub least : (G : List Place) (x : Firings) → Safe G x → (h : Hold) → holding h ≡ false → (v : ℕ) → Least G x v (step G h x v)
least G x safe h none v = record {
  one_more = (grows G h x v).1;
  bound = λ p lt to_v. omega (arith, step_le G h x safe p lt, ap (step G h x) to_v);
  reached = elim (step_cases G h x v) [
    | inl go ↦ inl go.2
    | inr stop ↦ elim stop.0 [
      | inl k ↦ absurd (both_ways _ (none_held h v none) k)
      | inr b ↦ inr (b.0, b.1, b.2, omega (arith, stop.1, b.3, safe b.0 b.1, ap x b.2))
    ]
  ];
}

-- counts that are not ahead are not ahead after a step either, if the others' module is free wherever theirs is
step_ahead : (G : List Place) (h k : Hold) (x y : Firings) → NotAhead x y → (v : ℕ) → (held h v ≡ false → held k v ≡ false) → step G h x v ≤ step G k y v
step_ahead G h k x y le v free_too =
    elim (step_cases G h x v) [
      | inl go ↦
          let more : y v ≤ x v → Ready G y v = λ same p lt to_v. omega (arith, go.1 p lt to_v, le (at G p).from, ap x to_v, ap y to_v) in
          elim (cases_lt (x v) (y v)) [
            | inl less ↦ omega (arith, go.2, grows G k y v)
            | inr same ↦ omega (arith, go.2, le v, (by_rule G k y v).fires (free_too go.0) (more same))
          ]
      | inr stop ↦ omega (arith, stop.1, le v, grows G k y v)
    ]

pub monotone : (G : List Place) (h : Hold) (x y : Firings) → NotAhead x y → NotAhead (step G h x) (step G h y)
monotone G h x y le v = step_ahead G h h x y le v (λ k. k)

-- a step with a hold counts, and a free one does not
pub held_more : (h : Hold) (s : List Hold) → holding h ≡ true → held_steps (h ∷ s) ≡ held_steps s + 1
unfolding held_steps
held_more h s e = rw e (omega arith)

pub held_same : (h : Hold) (s : List Hold) → holding h ≡ false → held_steps (h ∷ s) ≡ held_steps s
unfolding held_steps
held_same h s e = rw e (omega arith)

held_le : (s : List Hold) → held_steps s ≤ length s
unfolding held_steps
held_le [] = omega arith
held_le (h ∷ s) = omega (arith, held_le s, cond_both (holding h) 1 0 (λ c. c ≤ 1) (λ _. omega arith) (λ _. omega arith))

-- a step with a hold only adds firings; a free one leads at least as far as the last step of the other list
pub behind : (G : List Place) (r s : List Hold) → length r + held_steps s ≤ length s → NotAhead (firings G r) (firings G s)
unfolding firings
behind G [] s less v = omega arith
behind G (k ∷ r) [] less v = absurd (omega arith)
behind G (k ∷ r) (h ∷ s) less v =
    elim (cases_Bool (holding h)) [
      | inl some ↦ omega (arith, behind G (k ∷ r) s (omega (arith, held_more h s some)) v, grows G h (firings G s) v)
      | inr none ↦ step_ahead G k h (firings G r) (firings G s) (behind G r s (omega (arith, held_same h s none))) v (λ _. none_held h v none)
    ]

pub no_setback : (G : List Place) (s : List Hold) → NotAhead (firings G (replicate (length s - held_steps s) free)) (firings G s)
no_setback G s = behind G (replicate (length s - held_steps s) free) s (omega (arith, held_le s, length-replicate (length s - held_steps s) free))

-- whether a module is ready turns on its own count and on those where its places start
ready_alike : (G : List Place) (x y : Firings) (v : ℕ) → x v ≡ y v → ((p : ℕ) → p < length G → x (at G p).from ≡ y (at G p).from) → ready G x v ≡ ready G y v
unfolding ready
ready_alike [] x y v here same = refl
ready_alike (q ∷ G) x y v here same =
    let rest = ready_alike G x y v here (λ p lt. same (suc p) (omega arith)) in
    elim (cases_Bool (eqb q.to v)) [
      | inl leads ↦
          let to_v : q.to ≡ v = eqb-true _ _ leads in
          let tokens : tokens_now x q ≡ tokens_now y q = omega (arith, ap x to_v, ap y to_v, same 0 (omega arith)) in
          rw (leads, tokens, rest)
      | inr passes ↦ rw (passes, rest)
    ]

pub local : (n : ℕ) (G : List Place) → Starts n G → (h : Hold) (x y : Firings) → Alike n x y → Alike n (step G h x) (step G h y)
unfolding step
local n G starts h x y same v v_in = rw (ready_alike G x y v (same v v_in) (λ p lt. same _ (starts p lt)), same v v_in)
