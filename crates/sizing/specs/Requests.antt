-- When a request for a sizing is refused before any candidate is tried. Assumes nothing.
use Rattle.std.specs.Prelude.{ℕ, suc, cond, ◌&&◌, List, [], ◌∷◌, length, Some, None, Option, ◌==◌, nat_le}
use Rattle.std.specs.Int.{is_in_range}
use Rattle.netlist.specs.declared.refusal.Cause.TheVariants.{AllowanceOutOfRange, TargetOutOfRange}
use Rattle.netlist.specs.declared.refusal.Refusal.{Refusal}
use Rattle.rating.specs.Sizings.{sizes_refused, sizing_fault}

-- a target a/b has b from 1 to 64, and a from 1 to b
abbrev pub target_fault : ℕ → ℕ → Option Refusal
target_fault a b = cond (is_in_range 1 64 b && is_in_range 1 b a) None (Some (record { cause = TargetOutOfRange; place = 0 }))

-- the first cap that is not from its channel's present byte to 16, where the bytes are those of channel k and of the ones after it
abbrev pub bad_cap : ℕ → List ℕ → List ℕ → Option Refusal
bad_cap k [] caps = None
bad_cap k (q ∷ sizing) [] = None
bad_cap k (q ∷ sizing) (c ∷ caps) = cond (is_in_range q 16 c) (bad_cap (suc k) sizing caps) (Some (sizes_refused k))

-- a cap table has as many bytes as a sizing; the length is judged first
abbrev pub caps_fault : List ℕ → List ℕ → Option Refusal
caps_fault sizing caps = cond (length caps == length sizing) (bad_cap 1 sizing caps) (Some (sizes_refused 0))

-- at most 8 slots may be added
abbrev pub allowance_fault : ℕ → Option Refusal
allowance_fault m = cond (nat_le m 8) None (Some (record { cause = AllowanceOutOfRange; place = 0 }))

-- a fault, or else the next one
abbrev pub or_else : Option Refusal → Option Refusal → Option Refusal
or_else (Some x) next = Some x
or_else None next = next

-- the first fault of a request for e channels
abbrev pub request_fault : ℕ → ℕ → ℕ → List ℕ → ℕ → List ℕ → Option Refusal
request_fault e a b caps m sizing = or_else (target_fault a b) (or_else (sizing_fault e sizing) (or_else (caps_fault sizing caps) (allowance_fault m)))
