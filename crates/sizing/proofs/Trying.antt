-- When a slow cycle shows that no candidate reaches the target.
use Rattle.std.proofs.Common.{◌≡◌, ℕ, ◌/◌, ◌<◌, List, length, get_or, arith}
use Rattle.netlist.specs.declared.netlist.Netlist.{Netlist}
use Rattle.sizing.specs.Candidates.{Candidate, Reaching}
use Rattle.sizing.specs.Trials.{Backward}
use Rattle.sizing.proofs.Deeper.{Covers}
use Rattle.sizing.proofs.Tables.{NoneAt, added_raised}

module _ (n : Netlist) (a b : ℕ) (s caps : List ℕ) (slots : ℕ) (ps : List ℕ) (covers : Covers n a b s ps) where
  -- without a slot nothing is deeper anywhere
  pub none_without : slots ≡ 0 → (t : List ℕ) → Candidate s caps slots t → Reaching n a b t → ⊥
  none_without z t r good =
      let d = covers.all t r.above.lengths good in
      omega (arith, r.few, added_raised s t (get_or ps d.which 0 / 2) (covers.places d.which d.within) r.above.lengths d.deeper)

  -- all places of the cycle were tried
  pub none_along : ((i : ℕ) → i < length ps → Backward (get_or ps i 0) → NoneAt (Reaching n a b) s caps slots (get_or ps i 0 / 2))
      → (t : List ℕ) → Candidate s caps slots t → Reaching n a b t → ⊥
  none_along none t r good = let d = covers.all t r.above.lengths good in none d.which d.within d.backward t r good d.deeper
