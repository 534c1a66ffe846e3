-- A rating has for its graph what the bounds ask for. Assumes nothing.
use Rattle.std.proofs.Common.{ℕ, ◌-◌, ◌*◌, ◌<◌, ◌≤◌, ◌⊎◌, ℤ, pos, neg_ℤ, ◌≤ℤ◌, refl, inl, inr, arith}
use Rattle.std.proofs.lemmas.Bool.{cases_lt}
use Rattle.marked.specs.Graphs.{Potential}
use Rattle.netlist.specs.Holds.{modules}
use Rattle.rating.specs.Extended.{graph_of}
use Rattle.rating.proofs.Fitting.{fits_as}
use Rattle.counts.specs.Laws.{RatingKnows}

-- values that the modules of a graph have, as one function; it is 0 elsewhere
module _ (n : ℕ) (P : ℕ → ℤ → Type 0) (some : (v : ℕ) → v < n → (z : ℤ) × P v z) where
  pick : (v : ℕ) → (v < n) ⊎ (n ≤ v) → ℤ
  pick v (inl l) = (some v l).0
  pick v (inr m) = pos 0

  picked : (v : ℕ) → v < n → (d : (v < n) ⊎ (n ≤ v)) → P v (pick v d)
  unfolding pick
  picked v l (inl k) = (some v k).1
  picked v l (inr m) = absurd (omega arith)

pub rating_knows : RatingKnows
rating_knows r h =
    let n = r.netlist.now in
    let G = graph_of n r.sizing.now in
    let Good : ℕ → ℤ → Type 0 = λ v z. Potential r.rate.0 r.rate.1 G v z × (neg_ℤ (pos (r.rate.0 * (modules n - 1))) ≤ℤ z) × (z ≤ℤ pos 0) in
    let some : (v : ℕ) → v < modules n → (z : ℤ) × Good v z = λ v l. (let p = h.potential v l in (p.0, (p.1, p.2, p.3))) in
    let good = picked (modules n) Good some in
    record {
      starts = (fits_as n r.sizing.now (modules n) G refl refl h.sized).starts;
      is_rate = h.is_rate;
      potential = λ v. pick (modules n) Good some v (cases_lt v (modules n));
      potentials = λ v l. (good v l (cases_lt v (modules n))).0;
      range = λ v l. (good v l (cases_lt v (modules n))).1;
    }
