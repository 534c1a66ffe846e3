-- What the graph's rating says of the netlist.
use Rattle.std.proofs.Common.{◌≡◌, ℕ, ◌-◌, ◌<◌, ◌≤◌, List, length, get_or, take, ℤ, ap, ⊎_elim, arith}
use native.Mathlib.Nat.{sub-zero}
use Rattle.std.proofs.lemmas.List.{length-take}
use Rattle.marked.specs.declared.place.Place.{Place}
use Rattle.marked.specs.Answers.{Measured}
use Rattle.marked.proofs.Walks.{leads_inside}

-- a part from the front of a list, as the code takes it
pub front_is : {A : Type 0} (k : ℕ) (xs : List A) → take (k - 0) xs ≡ take k xs
front_is k xs = ap (λ (i : ℕ). take i xs) (sub-zero k)

module _ (n : ℕ) (G : List Place) (p l k : ℕ) (vs vs' : List ℤ) (cs cs' : List ℕ) (h : Measured n G p l k vs vs' cs cs') where
  -- the cycle has no more places than there are modules
  pub length_shown : k ≤ n
  length_shown = ⊎_elim (λ none. omega (arith, none.0)) (λ some. some.0) h.shown

  -- each of them is a place of the graph
  pub places_shown : (i : ℕ) → i < length (take k cs') → get_or (take k cs') i 0 < length G
  places_shown i m =
      ⊎_elim (λ none. absurd (omega (arith, none.0, length-take k cs')))
      (λ some. leads_inside G (take k cs') some.2.cycle.hub some.2.cycle.hub some.2.cycle.closed i m) h.shown

  -- so their numbers fit, and there is room for them in a list with an entry for each module
  pub put_few : length G ≤ 384 → (i : ℕ) → i < length (take (k - 0) cs') → get_or (take (k - 0) cs') i 0 < 384
  put_few few i m = rw (front_is k cs') (omega (arith, places_shown i (rw (front_is k cs') at m)))
