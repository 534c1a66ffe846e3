-- Depths that show what every walk weighs at least, and so that no cycle is slow. Assumes nothing.
use Rattle.std.proofs.Common.{◌≡◌, ℕ, zero, suc, ◌+◌, ◌*◌, ◌<◌, ◌≤◌, Bool, true, ◌&&◌, leb, List, [], ◌∷◌, length, get_or, ℤ, pos, neg_ℤ, ap, mul-zero, mul-suc, mul-add, arith}
use Rattle.std.proofs.lemmas.Int.{ints}
use Rattle.std.proofs.lemmas.Bool.{and_parts, leb-true}
use Rattle.marked.specs.declared.place.Place.{Place}
use Rattle.marked.specs.Graphs.{at, Leads, Potential, Reaches, tokens_on, weights}
use Rattle.marked.proofs.Walks.{weights_is}

-- the depth of a module: how far its potential is below 0
abbrev pub depth : List ℕ → ℕ → ℕ
depth ds v = get_or ds v 0

-- no place offers more depth than the module has where it ends: a test, so that a worked graph passes it by computing
abbrev climbs : ℕ → ℕ → List ℕ → Place → Bool
climbs a b ds p = leb (depth ds p.from + a) (depth ds p.to + b * p.tokens)

abbrev pub certified : ℕ → ℕ → List ℕ → List Place → Bool
certified a b ds [] = true
certified a b ds (p ∷ G) = climbs a b ds p && certified a b ds G

climbs_at : (a b : ℕ) (ds : List ℕ) (G : List Place) → certified a b ds G ≡ true → (p : ℕ) → p < length G
    → depth ds (at G p).from + a ≤ depth ds (at G p).to + b * (at G p).tokens
climbs_at a b ds [] h p l = absurd (omega arith)
climbs_at a b ds (q ∷ G) h zero l = leb-true _ _ (and_parts _ _ h).0
climbs_at a b ds (q ∷ G) h (suc p) l = climbs_at a b ds G (and_parts (climbs a b ds q) _ h).1 p (omega arith)

module _ (a b : ℕ) (ds : List ℕ) (G : List Place) (passes : certified a b ds G ≡ true) where
  along : (ps : List ℕ) (u v : ℕ) → Leads G u ps v → depth ds u + a * length ps ≤ depth ds v + b * tokens_on G ps
  along [] u v e = omega (arith, ap (depth ds) e, mul-zero a, mul-zero b)
  along (p ∷ ps) u v e =
      omega (arith, climbs_at a b ds G passes p e.0, ap (depth ds) e.1, along ps (at G p).to v e.2, mul-add b (at G p).tokens (tokens_on G ps), mul-suc a (length ps))

  pub reaches : Reaches a b G
  reaches ps c = omega (arith, along ps c.hub c.hub c.closed)

  -- and where a walk weighs just the depth, that is the potential
  pub potential : (v : ℕ) (z : ℤ) (source : ℕ) (walk : List ℕ) → Leads G source walk v → z ≡ weights a b G walk → z ≡ neg_ℤ (pos (depth ds v)) → Potential a b G v z
  potential v z source walk leads reached is =
      record { source = source; walk = walk; leads = leads; reached = reached; bound = λ u ps e. omega (arith, ints, is, along ps u v e, weights_is a b G ps) }
