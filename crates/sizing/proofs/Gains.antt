-- The tokens that one table brings to a walk and another does not, and the slots that it takes for them.
use Rattle.std.proofs.Common.{◌≡◌, ℕ, zero, suc, ◌+◌, ◌-◌, ◌/◌, ◌<◌, ◌≤◌, List, [], ◌∷◌, length, get_or, refl, ap, arith}
use Rattle.marked.specs.Graphs.{at, tokens_on}
use Rattle.netlist.specs.declared.channel.Channel.{Channel}
use Rattle.netlist.specs.declared.kind.Kind.{Kind}
use Rattle.rating.specs.Extended.{extended}
use Rattle.sizing.specs.Candidates.{AtLeast, added}
use Rattle.sizing.specs.Trials.{Backward}

-- the slots that t has more than s at the channel along which a place leads back; none for a place that does not
abbrev pub more : List ℕ → List ℕ → ℕ → ℕ
more [] t p = 0
more (x ∷ s) [] p = 0
more (x ∷ s) (y ∷ t) zero = 0
more (x ∷ s) (y ∷ t) (suc zero) = y - x
more (x ∷ s) (y ∷ t) (suc (suc p)) = more s t p

-- the same along a walk
abbrev pub gain : List ℕ → List ℕ → List ℕ → ℕ
gain s t [] = 0
gain s t (p ∷ ps) = more s t p + gain s t ps

more_place : (kind : ℕ → Kind) (cs : List Channel) (s t : List ℕ) → length s ≡ length t → (p : ℕ)
    → (at (extended kind cs t) p).tokens ≤ (at (extended kind cs s) p).tokens + more s t p
more_place kind [] s t l p = omega arith
more_place kind (c ∷ cs) [] [] l p = omega arith
more_place kind (c ∷ cs) [] (y ∷ t) l p = absurd (omega arith)
more_place kind (c ∷ cs) (x ∷ s) [] l p = absurd (omega arith)
more_place kind (c ∷ cs) (x ∷ s) (y ∷ t) l zero = omega arith
more_place kind (c ∷ cs) (x ∷ s) (y ∷ t) l (suc zero) = omega arith
more_place kind (c ∷ cs) (x ∷ s) (y ∷ t) l (suc (suc p)) = more_place kind cs s t (omega arith) p

-- a walk gains no more tokens than so many slots
pub more_walk : (kind : ℕ → Kind) (cs : List Channel) (s t : List ℕ) → length s ≡ length t → (ps : List ℕ)
    → tokens_on (extended kind cs t) ps ≤ tokens_on (extended kind cs s) ps + gain s t ps
more_walk kind cs s t l [] = omega arith
more_walk kind cs s t l (p ∷ ps) = omega (arith, more_place kind cs s t l p, more_walk kind cs s t l ps)

-- s with the channel of a place that leads back as deep as in t, where t is deeper
abbrev filled : List ℕ → List ℕ → ℕ → List ℕ
filled [] t p = []
filled (x ∷ s) [] p = x ∷ s
filled (x ∷ s) (y ∷ t) zero = x ∷ s
filled (x ∷ s) (y ∷ t) (suc zero) = (x + (y - x)) ∷ s
filled (x ∷ s) (y ∷ t) (suc (suc p)) = x ∷ filled s t p

filled_added : (s t : List ℕ) (p : ℕ) → more s t p + added (filled s t p) t ≡ added s t
filled_added [] t p = omega arith
filled_added (x ∷ s) [] p = omega arith
filled_added (x ∷ s) (y ∷ t) zero = omega arith
filled_added (x ∷ s) (y ∷ t) (suc zero) = omega arith
filled_added (x ∷ s) (y ∷ t) (suc (suc p)) = omega (arith, filled_added s t p)

-- the slots at other channels are the same
filled_other : (s t : List ℕ) (p q : ℕ) → (p ≡ q → ⊥) → more (filled s t p) t q ≡ more s t q
filled_other [] t p q d = refl
filled_other (x ∷ s) [] p q d = refl
filled_other (x ∷ s) (y ∷ t) zero q d = refl
filled_other (x ∷ s) (y ∷ t) (suc zero) zero d = refl
filled_other (x ∷ s) (y ∷ t) (suc zero) (suc zero) d = absurd (d refl)
filled_other (x ∷ s) (y ∷ t) (suc zero) (suc (suc q)) d = refl
filled_other (x ∷ s) (y ∷ t) (suc (suc p)) zero d = refl
filled_other (x ∷ s) (y ∷ t) (suc (suc p)) (suc zero) d = refl
filled_other (x ∷ s) (y ∷ t) (suc (suc p)) (suc (suc q)) d = filled_other s t p q (λ e. d (ap (λ (k : ℕ). suc (suc k)) e))

gain_other : (s t : List ℕ) (p : ℕ) (ps : List ℕ) → ((i : ℕ) → i < length ps → p ≡ get_or ps i 0 → ⊥) → gain (filled s t p) t ps ≡ gain s t ps
gain_other s t p [] d = refl
gain_other s t p (q ∷ ps) d = omega (arith, filled_other s t p q (d 0 (omega arith)), gain_other s t p ps (λ i l. d (suc i) (omega arith)))

tail_least : (x y : ℕ) (s t : List ℕ) → AtLeast (x ∷ s) (y ∷ t) → AtLeast s t
tail_least x y s t h = record { lengths = omega (arith, h.lengths); places = λ k. h.places (suc k) }

both_places : (x y : ℕ) (s t : List ℕ) → x ≤ y → ((k : ℕ) → get_or s k 0 ≤ get_or t k 0) → (k : ℕ) → get_or (x ∷ s) k 0 ≤ get_or (y ∷ t) k 0
both_places x y s t le h zero = le
both_places x y s t le h (suc k) = h k

both_least : (x y : ℕ) (s t : List ℕ) → x ≤ y → AtLeast s t → AtLeast (x ∷ s) (y ∷ t)
both_least x y s t le h = record { lengths = omega (arith, h.lengths); places = both_places x y s t le h.places }

pub half : (p : ℕ) → suc (suc p) / 2 ≡ suc (p / 2)
half p = omega arith

-- a table that is above s, and above t at the channel, is above s filled there
filled_below : (s t u : List ℕ) (p : ℕ) → AtLeast s u → (Backward p → get_or t (p / 2) 0 ≤ get_or u (p / 2) 0) → AtLeast (filled s t p) u
filled_below [] t u p h d = h
filled_below (x ∷ s) [] u p h d = h
filled_below (x ∷ s) (y ∷ t) u zero h d = h
filled_below (x ∷ s) (y ∷ t) [] (suc p) h d = absurd (omega (arith, h.lengths))
filled_below (x ∷ s) (y ∷ t) (z ∷ u) (suc zero) h d =
    let old : x ≤ z = h.places 0 in
    let new : y ≤ z = d refl in
    both_least (x + (y - x)) z s u (omega arith) (tail_least x z s u h)
filled_below (x ∷ s) (y ∷ t) (z ∷ u) (suc (suc p)) h d =
    let old : x ≤ z = h.places 0 in
    both_least x z (filled s t p) u old
    (filled_below s t u p (tail_least x z s u h) (λ b. rw (half p) at (d (omega (arith, b)))))

added_falls : (r r' t : List ℕ) → AtLeast r r' → added r' t ≤ added r t
added_falls [] [] t h = omega arith
added_falls [] (y ∷ r') t h = absurd (omega (arith, h.lengths))
added_falls (x ∷ r) [] t h = absurd (omega (arith, h.lengths))
added_falls (x ∷ r) (y ∷ r') [] h = omega arith
added_falls (x ∷ r) (y ∷ r') (z ∷ t) h =
    let here : x ≤ y = h.places 0 in
    omega (arith, added_falls r r' t (tail_least x y r r' h))

-- a walk that passes no place twice, and a table u above s that is as deep as t along it: what t adds to u comes on top of what it
-- adds along the walk
pub gain_charged : (ps s t u : List ℕ) → ((i j : ℕ) → i < j → j < length ps → get_or ps i 0 ≡ get_or ps j 0 → ⊥) → AtLeast s u
    → ((i : ℕ) → i < length ps → Backward (get_or ps i 0) → get_or t (get_or ps i 0 / 2) 0 ≤ get_or u (get_or ps i 0 / 2) 0)
    → gain s t ps + added u t ≤ added s t
gain_charged [] s t u apart h full = omega (arith, added_falls s u t h)
gain_charged (p ∷ ps) s t u apart h full =
    omega (
      arith,
      gain_charged ps (filled s t p) t u (λ i j m k. apart (suc i) (suc j) (omega arith) (omega arith))
          (filled_below s t u p h (full 0 (omega arith))) (λ i m. full (suc i) (omega arith)),
      gain_other s t p ps (λ i m. apart 0 (suc i) (omega arith) (omega arith)),
      filled_added s t p,
    )
