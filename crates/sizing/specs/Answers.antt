-- What a request for a sizing answers, and what it leaves in the table. Assumes nothing.
use Rattle.std.specs.Prelude.{◌≡◌, ℕ, ◌⊎◌, List, Some, None, Ok, Err, Result}
use Rattle.netlist.specs.declared.netlist.Netlist.{Netlist}
use Rattle.netlist.specs.declared.refusal.Cause.TheVariants.{Unreachable}
use Rattle.netlist.specs.declared.refusal.Refusal.{Refusal}
use Rattle.netlist.specs.Holds.{channels}
use Rattle.sizing.specs.Candidates.{Fewest, Unreached}
use Rattle.sizing.specs.Requests.{request_fault}

-- refusal 11
abbrev pub unreachable : Refusal
unreachable = record { cause = Unreachable; place = 0 }

-- `sizing` is the table before, and `sizing'` the one after: it becomes a candidate that reaches a/b with the fewest slots, and the
-- answer is their number; or it stays, since the request has a fault or since no candidate reaches the target
abbrev pub SizeAnswer : Netlist → ℕ → ℕ → List ℕ → ℕ → List ℕ → List ℕ → Result ℕ Refusal → Type 0
SizeAnswer n a b caps m sizing sizing' (Ok k) = (request_fault (channels n) a b caps m sizing ≡ None) × Fewest n a b caps m sizing k sizing'
SizeAnswer n a b caps m sizing sizing' (Err x) =
    (sizing' ≡ sizing)
    × ((request_fault (channels n) a b caps m sizing ≡ Some x)
    ⊎ ((request_fault (channels n) a b caps m sizing ≡ None) × (x ≡ unreachable) × Unreached n a b caps m sizing))
