-- What a function of splits.rt answers, where the definition reads so much: words for private contracts. Assumes nothing.
use Rattle.std.specs.Prelude.{◌≡◌, ℕ, ◌≤◌, ◌<◌, Bool, false, List, length, Ok, Err, MatchOption, Option, Result}
use Rattle.std.specs.Borrow.{Bor}
use Rattle.std.specs.Int.{IsInRange, IsOutOfRange}
use Rattle.std.specs.List.{AllWithin, HoldsAt}
use Rattle.netlist.specs.declared.flaw.Flaw.{Flaw}
use Rattle.netlist.specs.declared.record.Record.{Record}
use Rattle.netlist.specs.Faults.{Reading, count}
use Rattle.netlist.specs.Layout.{Contents}
use Rattle.netlist.specs.Scans.{Fair, held}

abbrev pub Splits : {A : Type 0} → Reading A → Result (A × Bor (List ℕ)) Flaw → Type 0
Splits reading (Ok p) = reading ≡ Ok (p.0, p.1.now)
Splits reading (Err e) = reading ≡ Err e

abbrev pub SplitsName : Reading (List ℕ) → Result (Bor (List ℕ) × Bor (List ℕ)) Flaw → Type 0
SplitsName reading (Ok p) = reading ≡ Ok (p.0.now, p.1.now)
SplitsName reading (Err e) = reading ≡ Err e

-- the place of the first byte that no name has, or none
abbrev pub FirstBad : List ℕ → Option ℕ → Type 0
FirstBad text r =
    MatchOption r (AllWithin (IsInRange 33 126) text 0 (length text))
    (λ i. (i < length text) × HoldsAt (IsOutOfRange 33 126) text i × AllWithin (IsInRange 33 126) text 0 i)

-- a record that says what was read
abbrev pub SplitsRecord : Reading Contents → Result (Record × Bor (List ℕ)) Flaw → Type 0
SplitsRecord reading (Ok p) = (reading ≡ Ok (held p.0, p.1.now)) × Fair p.0
SplitsRecord reading (Err e) = reading ≡ Err e

-- a count that a closure allows, whose calls may answer so: as by each test that agrees with it and allows none above 255
abbrev pub SplitsCount : (ℕ → Bool → Type 0) → List ℕ → Result (ℕ × Bor (List ℕ)) Flaw → Type 0
SplitsCount answers bytes result =
    (test : ℕ → Bool) → ((n : ℕ) → 256 ≤ n → test n ≡ false) → ((n : ℕ) (r : Bool) → n < 256 → answers n r → r ≡ test n)
    → Splits (count test bytes) result
