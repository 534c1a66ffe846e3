-- The bound from below: along each place the potentials fall by no more than the place weighs, so the firings keep up with them. Assumes nothing.
use Rattle.std.proofs.Common.{◌≡◌, ℕ, ◌+◌, ◌-◌, ◌*◌, ◌<◌, ◌≤◌, List, [], ◌∷◌, ◌++◌, length, get_or, ℤ, pos, ◌+ℤ◌, ◌≤ℤ◌, refl, ap, inl, inr, mul-le-mul_left, arith}
use Rattle.std.proofs.lemmas.Int.{ints}
use Rattle.std.proofs.lemmas.Bool.{cases_Bool}
use Rattle.marked.specs.declared.place.Place.{Place}
use Rattle.marked.specs.Answers.{Measured}
use Rattle.marked.specs.Graphs.{at, weight, weights}
use Rattle.marked.specs.Limits.{Starts}
use Rattle.marked.proofs.Walks.{leads_append}
use Rattle.firing.specs.Firings.{Hold, holding, firings, held_steps}
use Rattle.firing.specs.Theorems.{RatedGraph, KeepsUp}
use Rattle.firing.proofs.Numbers.{slower}
use Rattle.firing.proofs.Steps.{grows, safety, least, held_more, held_same}

-- the potentials are those that the search leaves in its list
pub rated : (n P L k : ℕ) (G : List Place) (vs vs' : List ℤ) (cs cs' : List ℕ) → Starts n G → Measured n G P L k vs vs' cs cs' → RatedGraph n G P L
rated n P L k G vs vs' cs cs' starts m = record {
  starts = starts;
  is_rate = m.is_rate;
  potential = λ v. get_or vs' v (pos 0);
  potentials = m.settled.potentials;
  range = λ v v_in. (m.settled.range v v_in).0;
}

weights_append : (a b : ℕ) (G : List Place) (ps qs : List ℕ) → weights a b G (ps ++ qs) ≡ weights a b G ps +ℤ weights a b G qs
weights_append a b G [] qs = omega (arith, ints)
weights_append a b G (p ∷ ps) qs = omega (arith, ints, weights_append a b G ps qs)

module _ (n P L : ℕ) (G : List Place) (r : RatedGraph n G P L) where
  -- the walk that reaches the potential of one end, and then the place, is a walk to the other end
  falls : (p v : ℕ) → p < length G → (at G p).to ≡ v → v < n → r.potential v ≤ℤ (r.potential (at G p).from +ℤ weight P L (at G p))
  falls p v lt to_v v_in =
      let before = r.potentials (at G p).from (r.starts p lt) in
      let leads = leads_append G before.walk (p ∷ []) before.source (at G p).from v before.leads (lt, refl, to_v) in
      omega (arith, ints, (r.potentials v v_in).bound before.source (before.walk ++ p ∷ []) leads, before.reached, weights_append P L G before.walk (p ∷ []))

  -- the lower bound in full, P t + π ≤ L x + P h, by induction over the steps
  keeps : (s : List Hold) (v : ℕ) → v < n → (pos (P * length s) +ℤ r.potential v) ≤ℤ pos (L * firings G s v + P * held_steps s)
  unfolding firings held_steps
  keeps [] v v_in = omega (arith, ints, (r.potentials v v_in).bound v [] refl)
  keeps (h ∷ s) v v_in =
      let x = firings G s in
      elim (cases_Bool (holding h)) [
        | inl some ↦ omega (arith, ints, keeps s v v_in, mul-le-mul_left L (grows G h x v).0, ap (λ k. P * k) (held_more h s some))
        | inr none ↦
            elim (least G x (safety G s) h none v).reached [
              | inl one ↦ omega (arith, ints, keeps s v v_in, r.is_rate.proper, ap (λ k. P * k) (held_same h s none), ap (λ k. L * k) one)
              | inr along ↦
                  let u = (at G along.0).from in
                  omega (
                    arith,
                    ints,
                    keeps s u (r.starts along.0 along.1),
                    falls along.0 v along.1 along.2 v_in,
                    ap (λ k. P * k) (held_same h s none),
                    ap (λ k. L * k) along.3,
                  )
            ]
      ]

pub lower : (n P L : ℕ) (G : List Place) → RatedGraph n G P L → KeepsUp n P L G
lower n P L G r s v v_in =
    let size : n ≡ n - 1 + 1 = omega arith in
    omega (arith, ints, keeps n P L G r s v v_in, r.range v v_in, ap (λ k. P * k) size)

pub reached : (n P L a b : ℕ) (G : List Place) → RatedGraph n G P L → a * L ≤ P * b → KeepsUp n a b G
reached n P L a b G r rate s v v_in = slower P L a b _ _ _ r.is_rate.positive rate (lower n P L G r s v v_in)
