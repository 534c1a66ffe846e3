-- The numbers of the causes, and the line that a refusal prints. Assumes nothing.
use Rattle.std.specs.Prelude.{ℕ, List, ◌++◌, codes, decimal}
use Rattle.netlist.specs.declared.refusal.Cause.{Cause}
use Rattle.netlist.specs.declared.refusal.Cause.TheVariants.{EndsEarly, CountOutOfRange, ValueOutOfRange, ByteAfterEnd, RelayEnds, NotJoined, RelayRing, TargetOutOfRange, SizesOutOfRange, AllowanceOutOfRange, Unreachable, OutOfTurn, NumberOutOfRange, ItemsTooShort, BeyondLimit, ListTooShort}
use Rattle.netlist.specs.declared.refusal.Refusal.{Refusal}

abbrev pub number : Cause → ℕ
number EndsEarly = 1
number CountOutOfRange = 2
number ValueOutOfRange = 3
number ByteAfterEnd = 4
number RelayEnds = 5
number NotJoined = 6
number RelayRing = 7
number TargetOutOfRange = 8
number SizesOutOfRange = 9
number AllowanceOutOfRange = 10
number Unreachable = 11
number OutOfTurn = 12
number NumberOutOfRange = 13
number ItemsTooShort = 14
number BeyondLimit = 15
number ListTooShort = 16

-- as `refused 1 at 24`
abbrev pub refusal_line : Refusal → List ℕ
refusal_line x = codes "refused " ++ (decimal (number x.cause) ++ (codes " at " ++ decimal x.place))
