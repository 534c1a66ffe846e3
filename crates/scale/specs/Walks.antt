-- Walks over n modules, which go by the numbers from 0 on, and the list of all of them. Assumes nothing.
use Rattle.std.specs.Prelude.{◌≡◌, ℕ, zero, suc, ◌+◌, ◌<◌, Bool, true, false, cond, ◌&&◌, List, [], ◌∷◌, ◌++◌, map, length, ◌==◌, slice_index_or}
use Rattle.std.specs.List.{range_with_len, flat_map, AllByRecursion}

-- p is a walk of k moves that ends at v: the k + 1 modules that it passes, in order. Every list of modules is a walk; the scale says which ones count
pub record Walk (n k v : ℕ) (p : List ℕ) : Type 0 where
  pub long : length p ≡ k + 1
  pub within : AllByRecursion (λ u. u < n) p
  pub ends : slice_index_or p k 0 ≡ v

-- whether two walks pass the same modules
abbrev pub same : List ℕ → List ℕ → Bool
same [] [] = true
same [] (y ∷ q) = false
same (x ∷ p) [] = false
same (x ∷ p) (y ∷ q) = x == y && same p q

-- at how many places of a list p stands
abbrev pub times : List ℕ → List (List ℕ) → ℕ
times p [] = 0
times p (q ∷ qs) = cond (same p q) 1 0 + times p qs

-- ps has every walk of k moves that ends at v, each once, and nothing else
pub record EachOnce (n k v : ℕ) (ps : List (List ℕ)) : Type 0 where
  pub only : AllByRecursion (Walk n k v) ps
  pub once : (p : List ℕ) → Walk n k v p → times p ps ≡ 1

-- the lists of k modules
abbrev pub lists : ℕ → ℕ → List (List ℕ)
lists n zero = [] ∷ []
lists n (suc k) = flat_map (λ u. map (λ p. p ++ u ∷ []) (lists n k)) (range_with_len 0 n)

-- the walks of k moves that end at v: any k modules, and then v
abbrev pub walks : ℕ → ℕ → ℕ → List (List ℕ)
walks n k v = map (λ p. p ++ v ∷ []) (lists n k)
