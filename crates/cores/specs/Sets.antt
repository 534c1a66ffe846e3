-- The rules of the two sets of this crate, and the states that they hold. Assumes nothing.
use Rattle.std.specs.Prelude.{ℕ, ◌+◌, ◌-◌, ◌%◌, ◌^◌, slice_index, slice_index_or}
use Rattle.cores.specs.Rules.{Rules}
use Rattle.cores.specs.declared.origin.Origin.{Origin}
use Rattle.cores.specs.declared.origin.OriginSet.{OriginSet}
use Rattle.cores.specs.declared.origin.OriginState.{OriginState}
use Rattle.cores.specs.declared.sum.SumSet.{SumSet}

-- A core adds what it absorbs to its sum, and its own number when it emits; it emits the sum. All modulo 2 to the 32.
abbrev pub sum_rules : Rules ℕ ℕ
sum_rules = record {
  reset = λ v. 0;
  absorb = λ v s x. (s + x) % 2 ^ 32;
  item = λ v s. (s + v) % 2 ^ 32;
  next = λ v s. (s + v) % 2 ^ 32;
}

-- the reset item of block v
abbrev pub reset_origin : ℕ → Origin
reset_origin v = record { «module» = v; serial = 0 }

-- A core keeps what it absorbed last, and emits its number and how many items it has emitted now.
abbrev pub origin_rules : Rules Origin OriginState
origin_rules = record {
  reset = reset_origin;
  absorb = λ v s x. record { emits = s.emits; last = x };
  item = λ v s. record { «module» = v; serial = (s.emits + 1) % 2 ^ 32 };
  next = λ v s. record { emits = (s.emits + 1) % 2 ^ 32; last = s.last };
}

-- the state of core v of a new set
abbrev pub origin_start : ℕ → OriginState
origin_start v = record { emits = 0; last = reset_origin v }

-- the state of core v, which stands at index v - 1
abbrev pub sum_held : SumSet → ℕ → ℕ
sum_held s v = slice_index s.sums (v - 1)

abbrev pub origin_held : OriginSet → ℕ → OriginState
origin_held s v = slice_index_or s.states (v - 1) (origin_start 0)
