-- What the descent from target to target keeps. Assumes nothing.
use Rattle.std.proofs.Common.{◌≡◌, ℕ, ◌*◌, ◌/◌, ◌<◌, ◌≤◌, ◌⊎◌, List, length, get_or, take, sym, refl, ap, subst, inl, inr, arith, length-take-le}
use Prim.Native.Nat.{◌∣◌}
use native.Mathlib.Nat.{eq-one_of_dvd-one}
use Rattle.marked.specs.declared.place.Place.{Place}
use Rattle.marked.specs.Graphs.{tokens_on}
use Rattle.marked.specs.Rates.{Coprime, Shown}
use Rattle.marked.specs.Answers.{Found}
use Rattle.marked.specs.Rounds.{Reduced}
use Rattle.marked.proofs.Fractions.{fall, below_one}
use Rattle.marked.proofs.Walks.{leads_inside}

-- the target p/l, and the first k places of the list, which brought it about
pub record Sought (n : ℕ) (G : List Place) (p l k : ℕ) (cs : List ℕ) : Type 0 where
  pub coprime : Coprime p l
  pub positive : 0 < l
  pub short : l ≤ n
  pub proper : p ≤ l
  pub shown : ((k ≡ 0) × (p ≡ 1) × (l ≡ 1)) ⊎ ((k ≤ n) × (p < l) × Shown p l G (take k cs))

-- the first target
pub sought_none : (n : ℕ) (G : List Place) (p l : ℕ) (cs : List ℕ) → 1 ≤ n → p ≡ 1 → l ≡ 1 → Sought n G p l 0 cs
sought_none n G p l cs some p_one l_one = record {
  coprime = λ d h g. eq-one_of_dvd-one (subst (λ x. d ∣ x) p_one h);
  positive = omega arith;
  short = omega arith;
  proper = omega arith;
  shown = inl (refl, p_one, l_one);
}

-- one more target: the mean of a cycle that is slow for the one before
module _ (n : ℕ) (G : List Place) (p l k : ℕ) (cs : List ℕ) (s : Sought n G p l k cs)
    (before after : List ℕ) (k' p' l' t : ℕ) (few : n ≤ 64) (room : n ≤ length after) (f : Found n p l G before after k')
    (is : t ≡ tokens_on G (take k' after)) (r : Reduced t k' p' l') where
  long : length (take k' after) ≡ k'
  long = length-take-le k' after (omega (arith, f.short))

  some : 0 < k'
  some = omega (arith, f.cycle.some, long)

  slower : l * t < p * k'
  slower = omega (arith, f.slow, ap (λ z. l * z) is, ap (λ z. p * z) long)

  below : p' < l'
  below = below_one p l p' l' t k' some s.positive r.positive (omega (arith, f.short)) (omega (arith, s.short)) slower r.same s.proper

  pub sought_more : Sought n G p' l' k' after
  sought_more = record {
    coprime = r.coprime;
    positive = r.positive;
    short = omega (arith, r.short, f.short);
    proper = omega (arith, below);
    shown = inr (
      f.short,
      below,
      record {
        cycle = f.cycle;
        simple = f.simple;
        lowest_first = f.lowest_first;
        exact = omega (arith, r.same, ap (λ z. l' * z) is, ap (λ z. p' * z) long);
      },
    );
  }

  pub sought_falls : 4096 * p' / l' < 4096 * p / l
  sought_falls = fall p l p' l' t k' some s.positive r.positive (omega (arith, f.short)) (omega (arith, s.short)) slower r.same

-- the places of the cycle that was found, as a part of the list
pub part : (n : ℕ) (G : List Place) (a b : ℕ) (before after : List ℕ) (k m : ℕ) → Found n a b G before after k → n ≤ 64 → n ≤ length after → m ≡ k
    → ((i : ℕ) → i < length (take m after) → get_or (take m after) i 0 < length G) × (length (take m after) ≤ 64)
part n G a b before after k m f few room e = (
  subst (λ x. (i : ℕ) → i < length (take x after) → get_or (take x after) i 0 < length G) (sym e)
      (leads_inside G (take k after) f.cycle.hub f.cycle.hub f.cycle.closed),
  omega (arith, length-take-le m after (omega (arith, f.short)), f.short),
)
