-- A list of calls is a list of steps of the extended graph, with the modules that are held in each. Assumes nothing.
use Rattle.std.proofs.Common.{◌≡◌, ℕ, zero, suc, ◌-◌, ◌<◌, Bool, false, ◌||◌, List, [], ◌∷◌, length, get_or, Some, None, Option, sym, refl, ap, ◌∙◌, arith}
use Rattle.std.specs.Int.{IsInRange}
use Rattle.netlist.specs.declared.refusal.Refusal.{Refusal}
use Rattle.netlist.specs.declared.netlist.Netlist.{Netlist}
use Rattle.netlist.specs.Holds.{channels, modules}
use Rattle.firing.specs.Firings.{Hold, holding, held_steps}
use Rattle.firing.specs.Firings.{firings as firings_there}
use Rattle.rating.specs.Extended.{graph_of}
use Rattle.rating.specs.Sizings.{sizing_fault}
use Rattle.counts.specs.Nets.{net_of}
use Rattle.counts.proofs.Bridges.{step_agrees}
use Rattle.calls.specs.Calls.{Call, Count, after, any, at_first, counted, counted_from, done, fill, firings, front, hold, prime, refusal, step, unless}

-- f of the first n numbers
unfoldable listed : (ℕ → Bool) → ℕ → List Bool
listed f zero = []
listed f (suc n) = f 0 ∷ listed (λ k. f (suc k)) n

listed_at : (f : ℕ → Bool) (n k : ℕ) → k < n → get_or (listed f n) k false ≡ f k
unfolding listed
listed_at f zero k lt = absurd (omega arith)
listed_at f (suc n) zero lt = refl
listed_at f (suc n) (suc k) lt = listed_at (λ i. f (suc i)) n k (omega arith)

listed_any : (f : ℕ → Bool) (n : ℕ) → holding (listed f n) ≡ any f n
unfolding listed holding any
listed_any f zero = refl
listed_any f (suc n) = ap (λ b. f 0 || b) (listed_any (λ i. f (suc i)) n)

-- what holds of both holds of the one that comes
unless_one : {X : Type 0} (r : Option Refusal) (x y : X) (P : X → Type 0) → P x → P y → P (unless r x y)
unless_one None x y P p q = p
unless_one (Some n) x y P p q = q

module _ (n : Netlist) (sizing : List ℕ) (sized : sizing_fault (channels n) sizing ≡ None) where
  -- the counts c are those of the steps s
  pub record Agrees (c : Count) (s : List Hold) : Type 0 where
    pub fired : (k : ℕ) → k < modules n → c.firings (suc k) ≡ firings_there (graph_of n sizing) s k
    pub steps : c.steps ≡ length s
    pub held : c.held ≡ held_steps s

  abbrev pub Agreed : Count → Type 0
  Agreed c = (s : List Hold) × Agrees c s

  stepping : (c : Count) (m : ℕ) → Agreed c → Agreed (done (net_of n sizing) c (step m))
  unfolding firings_there held_steps
  stepping c m a =
      let h = listed (λ k. c.marks (suc k)) (modules n) in
      let s = a.0 in
      let before = a.1 in
      let here : Agrees (done (net_of n sizing) c (step m)) (h ∷ s) = record {
        fired = step_agrees n sizing sized c.marks h c.firings (firings_there (graph_of n sizing) s) (λ k lt. sym (listed_at (λ i. c.marks (suc i)) (modules n) k lt)) before.fired;
        steps = omega (arith, before.steps);
        held = (let is = listed_any (λ k. c.marks (suc k)) (modules n) in rw is (omega (arith, before.held)));
      } in
      (h ∷ s, here)

  marking : (c d : Count) → d.firings ≡ c.firings → d.steps ≡ c.steps → d.held ≡ c.held → Agreed c → Agreed d
  marking c d f t h a = (a.0, record { fired = λ k lt. ap (λ (x : ℕ → ℕ). x (suc k)) f ∙ a.1.fired k lt; steps = t ∙ a.1.steps; held = h ∙ a.1.held })

  one_call : (c : Count) (y : Call) → Agreed c → Agreed (after (net_of n sizing) c y)
  one_call c (prime m) a = unless_one (refusal (net_of n sizing) c (prime m)) (done (net_of n sizing) c (prime m)) c Agreed (marking c (done (net_of n sizing) c (prime m)) refl refl refl a) a
  one_call c (hold v) a = unless_one (refusal (net_of n sizing) c (hold v)) (done (net_of n sizing) c (hold v)) c Agreed (marking c (done (net_of n sizing) c (hold v)) refl refl refl a) a
  one_call c (step m) a = unless_one (refusal (net_of n sizing) c (step m)) (done (net_of n sizing) c (step m)) c Agreed (stepping c m a) a
  one_call c (firings v) a = unless_one (refusal (net_of n sizing) c (firings v)) c c Agreed a a
  one_call c (fill e) a = unless_one (refusal (net_of n sizing) c (fill e)) c c Agreed a a
  one_call c (front e m) a = unless_one (refusal (net_of n sizing) c (front e m)) c c Agreed a a

  all_calls : (calls : List Call) (c : Count) → Agreed c → Agreed (counted_from (net_of n sizing) c calls)
  unfolding counted_from
  all_calls [] c a = a
  all_calls (y ∷ ys) c a = all_calls ys (after (net_of n sizing) c y) (one_call c y a)

  starting : Agreed at_first
  unfolding firings_there held_steps
  starting = ([], record { fired = λ k lt. refl; steps = refl; held = refl })

  pub agreed : (calls : List Call) → Agreed (counted (net_of n sizing) calls)
  agreed calls = all_calls calls at_first starting

  pub fired_as : (calls : List Call) (v : ℕ) → IsInRange 1 (modules n) v → (counted (net_of n sizing) calls).firings v ≡ firings_there (graph_of n sizing) (agreed calls).0 (v - 1)
  fired_as calls v m =
      let is : v ≡ suc (v - 1) = omega (arith, m.0) in
      ap (counted (net_of n sizing) calls).firings is ∙ (agreed calls).1.fired (v - 1) (omega (arith, m.0, m.1))
