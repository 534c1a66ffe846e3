-- Walks joined and taken apart, their tokens and their weights. Assumes nothing.
use Rattle.std.proofs.Common.{◌≡◌, ℕ, zero, suc, ◌+◌, ◌*◌, ◌<◌, ◌≤◌, List, [], ◌∷◌, ◌++◌, length, get_or, take, drop, sum_by, pos, ◌-ℤ◌, sym, refl, subst, mul-zero, mul-suc, mul-add, arith}
use Rattle.std.proofs.lemmas.Int.{ints}
use Rattle.std.proofs.lemmas.List.Sums.{sum_by-cons}
use Rattle.marked.specs.declared.place.Place.{Place}
use Rattle.marked.specs.Limits.{Light}
use Rattle.marked.specs.Graphs.{at, start, Leads, tokens_on, weights}

-- a walk, and then one from where it ends
pub leads_append : (G : List Place) (ps qs : List ℕ) (u v w : ℕ) → Leads G u ps v → Leads G v qs w → Leads G u (ps ++ qs) w
leads_append G [] qs u v w l m = subst (λ x. Leads G x qs w) (sym l) m
leads_append G (p ∷ ps) qs u v w l m = (l.0, l.1, leads_append G ps qs (at G p).to v w l.2 m)

-- the tokens of two walks in a row
pub tokens_append : (G : List Place) (ps qs : List ℕ) → tokens_on G (ps ++ qs) ≡ tokens_on G ps + tokens_on G qs
tokens_append G [] qs = omega arith
tokens_append G (p ∷ ps) qs = omega (arith, tokens_append G ps qs)

-- the tokens as the sum of a chain
pub tokens_summed : (G : List Place) (ps : List ℕ) → sum_by (λ p. (at G p).tokens) ps ≡ tokens_on G ps
tokens_summed G [] = refl
tokens_summed G (p ∷ ps) = omega (arith, sum_by-cons (λ q. (at G q).tokens) p ps, tokens_summed G ps)

-- the tokens of a walk in the graph: each place holds 17 at most
pub tokens_few : (G : List Place) → Light G → (ps : List ℕ) → ((i : ℕ) → i < length ps → get_or ps i 0 < length G) → tokens_on G ps ≤ 17 * length ps
tokens_few G light [] h = omega arith
tokens_few G light (p ∷ ps) h = omega (arith, light p (h 0 (omega arith)), tokens_few G light ps (λ i l. h (suc i) (omega arith)))

-- the places of a walk are places of the graph
pub leads_inside : (G : List Place) (ps : List ℕ) (u v : ℕ) → Leads G u ps v → (i : ℕ) → i < length ps → get_or ps i 0 < length G
leads_inside G [] u v l i h = absurd (omega arith)
leads_inside G (p ∷ ps) u v l zero h = l.0
leads_inside G (p ∷ ps) u v l (suc i) h = leads_inside G ps (at G p).to v l.2 i (omega arith)

-- a walk's weight is its tokens' less its places'
pub weights_is : (a b : ℕ) (G : List Place) (ps : List ℕ) → weights a b G ps ≡ pos (b * tokens_on G ps) -ℤ pos (a * length ps)
weights_is a b G [] = omega (arith, ints, mul-zero a, mul-zero b)
weights_is a b G (p ∷ ps) = omega (arith, ints, weights_is a b G ps, mul-add b (at G p).tokens (tokens_on G ps), mul-suc a (length ps))

-- a walk cut in two before its place at index i
pub leads_cut : (G : List Place) (ps : List ℕ) (u v i : ℕ) → i < length ps → Leads G u ps v → Leads G u (take i ps) (start G ps i) × Leads G (start G ps i) (drop i ps) v
leads_cut G [] u v i h l = absurd (omega arith)
leads_cut G (p ∷ ps) u v zero h l = (sym l.1, (l.0, refl, l.2))
leads_cut G (p ∷ ps) u v (suc i) h l = let r = leads_cut G ps (at G p).to v i (omega arith) l.2 in ((l.0, l.1, r.0), r.1)
