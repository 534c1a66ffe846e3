-- `walks` lists every walk, each once. Assumes nothing.
use Rattle.std.proofs.Common.{◌≡◌, ℕ, zero, suc, ◌+◌, ◌<◌, ◌≤◌, false, ◌&&◌, eqb, List, [], ◌∷◌, ◌++◌, map, length, get_or, take, sym, refl, ap, ◌∙◌, ⊎_elim, arith}
use mathlib.Core.Bool.{and-true, and-false, and_assoc}
use Rattle.std.specs.List.{range_with_len, flat_map, AllByRecursion}
use Rattle.std.proofs.lemmas.List.{length_push, length-take-le, take_more, take_all, nil_from_length, get_or_push}
use Rattle.std.proofs.ByRecursion.{All-push, All-append, All-map, All-weaker, All-take, All-get_or}
use Rattle.std.proofs.lemmas.Bool.{cases_eq, eq-eqb, ne_eqb}
use Rattle.scale.specs.Walks.{Walk, EachOnce, same, times, lists, walks}

-- Two lists, each with one more at its end, are the same where the lists are and the last ones are.
-- A list that has one more is not empty.
same_short : (q : List ℕ) (t : ℕ) → same [] (q ++ t ∷ []) ≡ false
same_short [] t = refl
same_short (y ∷ q) t = refl

same_long : (p : List ℕ) (u : ℕ) → same (p ++ u ∷ []) [] ≡ false
same_long [] u = refl
same_long (x ∷ p) u = refl

same_push : (p q : List ℕ) (u t : ℕ) → same (p ++ u ∷ []) (q ++ t ∷ []) ≡ (same p q && eqb u t)
same_push [] [] u t = and-true (eqb u t)
same_push [] (y ∷ q) u t = ap (λ b. eqb u y && b) (same_short q t) ∙ and-false (eqb u y)
same_push (x ∷ p) [] u t = ap (λ b. eqb x t && b) (same_long p u) ∙ and-false (eqb x t)
same_push (x ∷ p) (y ∷ q) u t = ap (λ b. eqb x y && b) (same_push p q u t) ∙ sym (and_assoc (eqb x y) (same p q) (eqb u t))

-- where lists are joined, the places add up
times-append : (p : List ℕ) (xs ys : List (List ℕ)) → times p (xs ++ ys) ≡ times p xs + times p ys
times-append p [] ys = omega arith
times-append p (x ∷ xs) ys = omega (arith, times-append p xs ys)

-- of lists that all end in t, one that ends in t stands as often as it stood before
times_push : (p : List ℕ) (t : ℕ) (qs : List (List ℕ)) → times (p ++ t ∷ []) (map (λ q. q ++ t ∷ []) qs) ≡ times p qs
times_push p t [] = refl
times_push p t (q ∷ qs) =
    let e : same (p ++ t ∷ []) (q ++ t ∷ []) ≡ same p q = same_push p q t t ∙ ap (λ b. same p q && b) (eq-eqb t t refl) ∙ and-true (same p q) in
    rw (e, times_push p t qs)

-- and one that ends in another never stands there
times_other : (p : List ℕ) (u t : ℕ) → (u ≡ t → ⊥) → (qs : List (List ℕ)) → times (p ++ u ∷ []) (map (λ q. q ++ t ∷ []) qs) ≡ 0
times_other p u t ne [] = refl
times_other p u t ne (q ∷ qs) =
    let e : same (p ++ u ∷ []) (q ++ t ∷ []) ≡ false = same_push p q u t ∙ ap (λ b. same p q && b) (ne_eqb u t ne) ∙ and-false (same p q) in
    rw (e, times_other p u t ne qs)

-- the lists of qs, each with one of the m modules from a on at its end
abbrev ending : List (List ℕ) → ℕ → ℕ → List (List ℕ)
ending qs a m = flat_map (λ t. map (λ q. q ++ t ∷ []) qs) (range_with_len a m)

module _ (qs : List (List ℕ)) (p : List ℕ) (u : ℕ) where
  -- no module from a on is the last one: it was passed
  times_past : (a m : ℕ) → u < a → times (p ++ u ∷ []) (ending qs a m) ≡ 0
  times_past a zero past = refl
  times_past a (suc m) past =
      times-append (p ++ u ∷ []) (map (λ q. q ++ a ∷ []) qs) (ending qs (a + 1) m)
      ∙ omega (arith, times_other p u a (λ e. omega arith) qs, times_past (a + 1) m (omega arith))

  -- one of them is, and it is met once
  times_ending : (a m : ℕ) → a ≤ u → u < a + m → times (p ++ u ∷ []) (ending qs a m) ≡ times p qs
  times_ending a zero low high = absurd (omega arith)
  times_ending a (suc m) low high =
      times-append (p ++ u ∷ []) (map (λ q. q ++ a ∷ []) qs) (ending qs (a + 1) m)
      ∙ ⊎_elim
      (λ e. omega (arith, ap (λ t. times (p ++ u ∷ []) (map (λ q. q ++ t ∷ []) qs)) (sym e) ∙ times_push p u qs, times_past (a + 1) m (omega arith)))
      (λ ne. omega (arith, times_other p u a ne qs, times_ending (a + 1) m (omega arith) (omega arith)))
      (cases_eq u a)

-- a list of k + 1 is k, and then its last
split_last : (k : ℕ) (p : List ℕ) → length p ≡ k + 1 → p ≡ take k p ++ get_or p k 0 ∷ []
split_last k p long = sym (take_all (k + 1) p (omega arith)) ∙ take_more p k 0 (omega arith)

-- every list of k modules is listed once
lists_once : (n k : ℕ) (p : List ℕ) → length p ≡ k → AllByRecursion (λ u. u < n) p → times p (lists n k) ≡ 1
lists_once n zero p long within = ap (λ q. times q (lists n 0)) (nil_from_length p long)
lists_once n (suc k) p long within =
    let last = get_or p k 0 in
    ap (λ q. times q (lists n (suc k))) (split_last k p (omega arith))
    ∙ times_ending (lists n k) (take k p) last 0 n (omega arith) (omega (arith, All-get_or (λ u. u < n) p k 0 (omega arith) within))
    ∙ lists_once n k (take k p) (length-take-le k p (omega arith)) (All-take (λ u. u < n) k p within)

-- p is a list of k modules
record Listed (n k : ℕ) (p : List ℕ) : Type 0 where
  long : length p ≡ k
  within : AllByRecursion (λ u. u < n) p

listed_push : (n k u : ℕ) → u < n → (p : List ℕ) → Listed n k p → Listed n (suc k) (p ++ u ∷ [])
listed_push n k u l p r = record { long = length_push p u ∙ omega (arith, r.long); within = All-push (λ x. x < n) p u r.within l }

-- nothing else is listed
ending_within : (n k : ℕ) (qs : List (List ℕ)) → AllByRecursion (Listed n k) qs → (a m : ℕ) → a + m ≤ n → AllByRecursion (Listed n (suc k)) (ending qs a m)
ending_within n k qs rs a zero h = tt
ending_within n k qs rs a (suc m) h =
    All-append (Listed n (suc k)) (map (λ q. q ++ a ∷ []) qs) (ending qs (a + 1) m)
    (All-map (Listed n (suc k)) (λ q. q ++ a ∷ []) qs (All-weaker (Listed n k) (λ q. Listed n (suc k) (q ++ a ∷ [])) (listed_push n k a (omega arith)) qs rs))
    (ending_within n k qs rs (a + 1) m (omega arith))

lists_within : (n k : ℕ) → AllByRecursion (Listed n k) (lists n k)
lists_within n zero = (record { long = refl; within = tt }, tt)
lists_within n (suc k) = ending_within n k (lists n k) (lists_within n k) 0 n (omega arith)

pub every_walk_once : (n k v : ℕ) → v < n → EachOnce n k v (walks n k v)
every_walk_once n k v l = record { only = all_walks; once = once }
  where
    end : (q : List ℕ) → Listed n k q → Walk n k v (q ++ v ∷ [])
    end q r = record { long = length_push q v ∙ omega (arith, r.long); within = All-push (λ x. x < n) q v r.within l; ends = get_or_push q v 0 k r.long }

    all_walks : AllByRecursion (Walk n k v) (walks n k v)
    all_walks = All-map (Walk n k v) (λ q. q ++ v ∷ []) (lists n k) (All-weaker (Listed n k) (λ q. Walk n k v (q ++ v ∷ [])) end (lists n k) (lists_within n k))

    once : (p : List ℕ) → Walk n k v p → times p (walks n k v) ≡ 1
    once p w =
        let split : p ≡ take k p ++ v ∷ [] = split_last k p w.long ∙ ap (λ x. take k p ++ x ∷ []) w.ends in
        ap (λ q. times q (walks n k v)) split
        ∙ times_push (take k p) v (lists n k)
        ∙ lists_once n k (take k p) (length-take-le k p (omega (arith, w.long))) (All-take (λ u. u < n) k p w.within)
