-- What a forecast answers and leaves. Assumes nothing.
use Rattle.std.specs.Prelude.{◌≡◌, ℕ, ◌-◌, ◌≤◌, cond, List, length, Some, None, Ok, Err, Option, Result, nat_lt, slice_index}
use Rattle.std.specs.Int.{IsInRange}
use Rattle.counts.specs.Nets.{net_of}
use Rattle.counts.specs.Steps.{freely}
use Rattle.netlist.specs.declared.netlist.Netlist.{Netlist}
use Rattle.netlist.specs.declared.refusal.Cause.TheVariants.{BeyondLimit, ListTooShort}
use Rattle.netlist.specs.declared.refusal.Refusal.{Refusal}
use Rattle.netlist.specs.Holds.{channels, modules}
use Rattle.rating.specs.Sizings.{sizing_fault}

-- why a forecast of t steps for n modules is refused: for its sizing first, then for its steps, then for a list with fewer than n entries
abbrev pub with_limits : ℕ → ℕ → ℕ → Option Refusal → Option Refusal
with_limits n t room (Some x) = Some x
with_limits n t room None =
    cond (nat_lt 1000000 t) (Some (record { cause = BeyondLimit; place = 0 }))
    (cond (nat_lt room n) (Some (record { cause = ListTooShort; place = n })) None)

abbrev pub forecast_fault : Netlist → List ℕ → ℕ → ℕ → Option Refusal
forecast_fault n sizing t room = with_limits (modules n) t room (sizing_fault (channels n) sizing)

-- the list has the firings of module v after t free steps at its entry v - 1, and keeps the rest of what it held before
pub record Foretold (n : Netlist) (sizing : List ℕ) (t : ℕ) (before after : List ℕ) : Type 0 where
  pub counts : (v : ℕ) → IsInRange 1 (modules n) v → slice_index after (v - 1) ≡ freely (net_of n sizing) t v
  pub kept : (i : ℕ) → modules n ≤ i → slice_index after i ≡ slice_index before i

-- what `forecast` answers: refused exactly for its fault, and then the list is as it was
abbrev pub ForecastAnswer : Netlist → List ℕ → ℕ → List ℕ → List ℕ → Result (Unit {0}) Refusal → Type 0
ForecastAnswer n sizing t before after (Ok done) = (forecast_fault n sizing t (length before) ≡ None) × Foretold n sizing t before after
ForecastAnswer n sizing t before after (Err x) = (forecast_fault n sizing t (length before) ≡ Some x) × (after ≡ before)
