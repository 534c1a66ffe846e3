-- What the laws of a scale give of choices over lists, and of walks. Assumes nothing.
use Rattle.std.proofs.Common.{◌≡◌, ℕ, zero, suc, ◌+◌, ◌<◌, List, [], ◌∷◌, ◌++◌, map, length, sym, refl, ap, ◌∙◌, add-one, arith}
use mathlib.Core.Path.{fun_ext}
use mathlib.Core.List.{map-map}
use Rattle.std.specs.List.{range_with_len, flat_map}
use Rattle.std.proofs.lemmas.List.{map-append}
use Rattle.std.proofs.lemmas.List.FromFn.{map-range_with_len_more}
use Rattle.scale.specs.Scales.{ScaleOf}
use Rattle.scale.specs.Walks.{lists, walks}
use Rattle.scale.specs.Counts.{element, weight, onward, counts, choices, over_walks}
use Rattle.scale.specs.Arrivals.{brought, arrival_from, arrival}

module _ {S : Type 0} (s : ScaleOf S) where
  -- the choice over two lists joined
  choices_append : (xs ys : List S) → choices s (xs ++ ys) ≡ s.choice (choices s xs) (choices s ys)
  choices_append [] ys = sym (s.no_way_choice (choices s ys))
  choices_append (x ∷ xs) ys = ap (s.choice x) (choices_append xs ys) ∙ sym (s.choice_assoc x (choices s xs) (choices s ys))

  -- a choice over lists joined is the choice of the choices over each
  choices_joined : {A B : Type 0} (f : B → S) (g : A → List B) (us : List A) → choices s (map f (flat_map g us)) ≡ choices s (map (λ u. choices s (map f (g u))) us)
  choices_joined f g [] = refl
  choices_joined f g (u ∷ us) =
      ap (choices s) (map-append f (g u) (flat_map g us))
      ∙ choices_append (map f (g u)) (map f (flat_map g us))
      ∙ ap (s.choice (choices s (map f (g u)))) (choices_joined f g us)

  -- no way is neutral on the right too
  choice_no_way : (x : S) → s.choice x s.no_way ≡ x
  choice_no_way x = s.choice_comm x s.no_way ∙ s.no_way_choice x

  module _ (es ws : List S) where
    -- one module more that a move may start from
    pub arrival_more : (v i : ℕ) → arrival_from s es ws v (i + 1) ≡ s.choice (arrival_from s es ws v i) (brought s es ws v i)
    arrival_more v i =
        ap (choices s) (map-range_with_len_more (brought s es ws v) 0 i i (omega arith))
        ∙ choices_append (map (brought s es ws v) (range_with_len 0 i)) (brought s es ws v i ∷ [])
        ∙ ap (s.choice (arrival_from s es ws v i)) (choice_no_way (brought s es ws v i))

    -- A walk that goes on from u to v is extended by the weight of that move.
    onward_push : (n : ℕ) (x : S) (t : ℕ) (p : List ℕ) (u v : ℕ) → onward s ws n x t ((p ++ u ∷ []) ++ v ∷ []) ≡ s.extension (onward s ws n x t (p ++ u ∷ [])) (weight s ws n u v)
    onward_push n x t [] u v = refl
    onward_push n x t (y ∷ p) u v = onward_push n (s.extension x (weight s ws n t y)) y p u v

    counts_push : (p : List ℕ) (u v : ℕ) → counts s es ws ((p ++ u ∷ []) ++ v ∷ []) ≡ s.extension (counts s es ws (p ++ u ∷ [])) (weight s ws (length es) u v)
    counts_push [] u v = refl
    counts_push (t ∷ p) u v = onward_push (length es) (element s es t) t p u v

    -- walks that end at u, each going on to v
    choices_push : (ps : List (List ℕ)) (u v : ℕ) → choices s (map (λ p. counts s es ws (p ++ v ∷ [])) (map (λ p. p ++ u ∷ []) ps)) ≡ s.extension (choices s (map (counts s es ws) (map (λ p. p ++ u ∷ []) ps))) (weight s ws (length es) u v)
    choices_push [] u v = sym (s.no_way_extension (weight s ws (length es) u v))
    choices_push (p ∷ ps) u v =
        ap (λ x. s.choice x (choices s (map (λ q. counts s es ws (q ++ v ∷ [])) (map (λ q. q ++ u ∷ []) ps)))) (counts_push p u v)
        ∙ ap (s.choice (s.extension (counts s es ws (p ++ u ∷ [])) (weight s ws (length es) u v))) (choices_push ps u v)
        ∙ sym (s.extension_choice _ _ (weight s ws (length es) u v))

    -- the walks of one move more, by the module where their last move starts
    over_walks_more : (k v : ℕ) → over_walks s es ws (suc k) v ≡ choices s (map (λ u. s.extension (over_walks s es ws k u) (weight s ws (length es) u v)) (range_with_len 0 (length es)))
    over_walks_more k v =
        let n = length es in
        ap (choices s) (map-map (counts s es ws) (λ p. p ++ v ∷ []) (lists n (suc k)))
        ∙ choices_joined (λ p. counts s es ws (p ++ v ∷ [])) (walks n k) (range_with_len 0 n)
        ∙ ap (λ f. choices s (map f (range_with_len 0 n))) (fun_ext (λ u. choices_push (lists n k) u v))

    -- functions that agree below a + n agree at the n numbers from a on
    map_counting_same : (f h : ℕ → S) (a n : ℕ) → ((u : ℕ) → u < a + n → f u ≡ h u) → map f (range_with_len a n) ≡ map h (range_with_len a n)
    map_counting_same f h a zero same = refl
    map_counting_same f h a (suc n) same =
        ap (λ x. x ∷ map f (range_with_len (a + 1) n)) (same a (omega arith))
        ∙ ap (λ xs. h a ∷ xs) (map_counting_same f h (a + 1) n (λ u l. same u (omega arith)))

    -- where each module has the choice over all walks of k moves, one round gives it that over all walks of k + 1
    pub over_next : (now : List S) (k v : ℕ) → length now ≡ length es → ((u : ℕ) → u < length es → element s now u ≡ over_walks s es ws k u) → arrival s now ws v ≡ over_walks s es ws (k + 1) v
    over_next now k v long here =
        let w = weight s ws (length es) in
        let one : ℕ → S = λ u. s.extension (over_walks s es ws k u) (w u v) in
        let step : arrival s now ws v ≡ choices s (map one (range_with_len 0 (length es))) =
        ap (λ n. choices s (map (brought s now ws v) (range_with_len 0 n))) long
        ∙ ap (choices s) (map_counting_same (brought s now ws v) one 0 (length es) (λ u l. let e = here u (omega arith) in cc)) in
        rw add-one (step ∙ sym (over_walks_more k v))

    -- the one walk of no move
    pub over_none : (v : ℕ) → element s es v ≡ over_walks s es ws 0 v
    over_none v = sym (choice_no_way (element s es v))
