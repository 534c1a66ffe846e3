-- When a sizing is refused. Assumes nothing.
use Rattle.std.specs.Prelude.{◌≡◌, ℕ, suc, ◌+◌, ◌<◌, ◌≢◌, ◌⊎◌, MatchResult, slice_index, cond, List, [], ◌∷◌, length, Some, None, Ok, Err, Option, Result, ◌==◌}
use Rattle.std.specs.Int.{IsInRange, IsOutOfRange, is_in_range}
use Rattle.netlist.specs.declared.refusal.Cause.TheVariants.{SizesOutOfRange}
use Rattle.netlist.specs.declared.refusal.Refusal.{Refusal}

-- refusal 9 at a place
abbrev pub sizes_refused : ℕ → Refusal
sizes_refused place = record { cause = SizesOutOfRange; place = place }

-- the first byte that is not from 1 to 16, by its channel, where the bytes are those of channel k and of the ones after it
abbrev pub bad_size : ℕ → List ℕ → Option Refusal
bad_size k [] = None
bad_size k (q ∷ qs) = cond (is_in_range 1 16 q) (bad_size (suc k) qs) (Some (sizes_refused k))

-- a sizing of e channels has a byte for each, from 1 to 16; the length is judged first
abbrev pub sizing_fault : ℕ → List ℕ → Option Refusal
sizing_fault e sizing = cond (length sizing == e) (bad_size 1 sizing) (Some (sizes_refused 0))

-- the answer of a test: passed where there is no fault, and the fault otherwise
abbrev pub Tested : Option Refusal → Result (Unit {0}) Refusal → Type 0
Tested fault (Ok done) = fault ≡ None
Tested fault (Err x) = fault ≡ Some x

-- the answer of a test of a byte for each of e channels, from a least of the channel's own to 16: the length is judged first, then
-- the first byte out of its range. (A record, so that a proof need not repeat what says the least.)
pub record TestedBytes (e : ℕ) (bs : List ℕ) (Least : ℕ → ℕ → Type 0) (r : Result (Unit {0}) Refusal) : Type 0 where
  pub tested : MatchResult r
      (λ done. (length bs ≡ e) × ((k : ℕ) → k < length bs → (q : ℕ) × Least k q × IsInRange q 16 (slice_index bs k)))
      (λ x. ((length bs ≢ e) × (x ≡ sizes_refused 0))
      ⊎ ((length bs ≡ e) × ((k : ℕ) × (k < length bs) × (x ≡ sizes_refused (k + 1)) × ((q : ℕ) × Least k q × IsOutOfRange q 16 (slice_index bs k)) × ((i : ℕ) → i < k → (q : ℕ) × Least i q × IsInRange q 16 (slice_index bs i)))))
