-- What the choice over all walks says on the two scales of the crate. Assumes nothing.
use Rattle.std.proofs.Common.{◌≡◌, ℕ, zero, suc, ◌+◌, ◌-◌, ◌^◌, ◌<◌, ◌≤◌, Bool, true, ◌⊎◌, List, [], ◌∷◌, map, length, replicate, refl, inl, inr, ⊎_elim, arith}
use lib.ListN.{length-replicate, get_or-replicate}
use Rattle.std.specs.List.{AllByRecursion}
use Rattle.std.proofs.lemmas.Bool.{cases_lt, or_cases, or_left, or_right}
use Rattle.scale.specs.Walks.{Walk, times, walks}
use Rattle.scale.specs.Counts.{counts, choices, over_walks}
use Rattle.scale.specs.YesNo.{yes_no, SomeWalk}
use Rattle.scale.specs.LeastTotal.{same_sum, least_total, LeastWalk}
use Rattle.scale.specs.declared.elements.Total.{Total}
use Rattle.scale.proofs.Once.{every_walk_once}
use Rattle.scale.proofs.Standing.{standing}

module _ (f : List ℕ → Bool) where
  -- one yes makes the choice yes
  yes_standing : (p : List ℕ) (qs : List (List ℕ)) → 0 < times p qs → f p ≡ true → choices yes_no (map f qs) ≡ true
  yes_standing p [] h y = absurd (omega arith)
  yes_standing p (q ∷ qs) h y =
      ⊎_elim
      (λ e. or_left (f q) (choices yes_no (map f qs)) (rw e at y))
      (λ l. or_right (f q) (choices yes_no (map f qs)) (yes_standing p qs l y))
      (standing p q qs h)

  -- and where the choice is yes, one is
  yes_found : (P : List ℕ → Type 0) (qs : List (List ℕ)) → AllByRecursion P qs → choices yes_no (map f qs) ≡ true → (p : List ℕ) × P p × (f p ≡ true)
  yes_found P [] all y = absurd (let z : ◌≡◌ {A = ℕ} 0 1 = cc in omega arith)
  yes_found P (q ∷ qs) all y =
      ⊎_elim
      (λ e. (q, all.0, e))
      (λ e. yes_found P qs all.1 e)
      (or_cases (f q) (choices yes_no (map f qs)) y)

-- on the yes/no scale: whether some walk counts as yes
pub some_walk : (es ws : List Bool) (k v : ℕ) → v < length es → SomeWalk es ws k v (over_walks yes_no es ws k v)
some_walk es ws k v l =
    let n = length es in
    let every = every_walk_once n k v l in
    record {
      found = yes_found (counts yes_no es ws) (Walk n k v) (walks n k v) every.only;
      none_missed = λ p w y. yes_standing (counts yes_no es ws) p (walks n k v) (omega (arith, every.once p w)) y;
    }

module _ (f : List ℕ → Total) where
  -- the choice is no more than any of them
  least_standing : (p : List ℕ) (qs : List (List ℕ)) → 0 < times p qs → (choices least_total (map f qs)).sum ≤ (f p).sum
  least_standing p [] h = absurd (omega arith)
  least_standing p (q ∷ qs) h =
      ⊎_elim
      (λ e. rw e (omega arith))
      (λ l. omega (arith, least_standing p qs l))
      (standing p q qs h)

  -- and it is one of them, unless it is no way
  least_found : (P : List ℕ → Type 0) (qs : List (List ℕ)) → AllByRecursion P qs → ((choices least_total (map f qs)).sum ≡ 2 ^ 32 - 1) ⊎ ((p : List ℕ) × P p × ((f p).sum ≡ (choices least_total (map f qs)).sum))
  least_found P [] all = inl refl
  least_found P (q ∷ qs) all =
      ⊎_elim
      (λ l. inr (q, all.0, omega arith))
      (λ l. ⊎_elim (λ e. inl (omega arith)) (λ h. inr (h.0, h.1, omega (arith, h.2))) (least_found P qs all.1))
      (cases_lt (f q).sum (choices least_total (map f qs)).sum)

all_replicate : (n v k : ℕ) → v < n → AllByRecursion (λ u. u < n) (replicate k v)
all_replicate n v zero l = tt
all_replicate n v (suc k) l = (l, all_replicate n v k l)

-- a walk of k moves ends at v: the one that stays there
staying : (n k v : ℕ) → v < n → Walk n k v (replicate (k + 1) v)
staying n k v l = record { long = length-replicate (k + 1) v; within = all_replicate n v (k + 1) l; ends = get_or-replicate (k + 1) k v 0 (omega arith) }

-- On the least-total scale: the least total of a walk. Where that is no way, every walk counts as no way, the one that stays among them.
pub least_walk : (es ws : List Total) (k v : ℕ) → v < length es → LeastWalk es ws k v (over_walks least_total es ws k v)
least_walk es ws k v l =
    let n = length es in
    let f = counts least_total es ws in
    let r = over_walks least_total es ws k v in
    let every = every_walk_once n k v l in
    let least : (p : List ℕ) → Walk n k v p → r.sum ≤ (f p).sum = λ p w. least_standing f p (walks n k v) (omega (arith, every.once p w)) in
    let stay = replicate (k + 1) v in
    let stays = staying n k v l in
    record {
      found = ⊎_elim
          (λ none. (stay, stays, same_sum (f stay) r (omega (arith, (f stay).fits, least stay stays))))
          (λ h. (h.0, h.1, same_sum (f h.0) r h.2))
          (least_found f (Walk n k v) (walks n k v) every.only);
      none_less = least;
    }
