-- An integer that is not above 0, and how far it is below. Assumes nothing.
use Rattle.std.proofs.Common.{◌≡◌, zero, suc, ℤ, pos, negsuc, neg_ℤ, ◌≤ℤ◌, refl, arith}
use Rattle.std.proofs.lemmas.Int.{ints}
use Rattle.marked.specs.Rounds.{depth}

-- the tie between the code's integers and the lemmas' natural numbers
pub by_depth : (z : ℤ) → z ≤ℤ pos 0 → z ≡ neg_ℤ (pos (depth z))
by_depth (pos zero) h = refl
by_depth (pos (suc n)) h = absurd (omega (arith, ints))
by_depth (negsuc n) h = refl
