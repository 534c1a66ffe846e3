-- The text that the forecasting program prints of a file. Assumes nothing.
use Rattle.std.specs.Prelude.{◌≡◌, ℕ, ◌-◌, ◌⊎◌, List, Some, None, decimal, slice_index}
use Rattle.forecasting.specs.Forecasts.{forecast_fault}
use Rattle.counts.specs.Nets.{net_of}
use Rattle.counts.specs.Steps.{freely}
use Rattle.checking.specs.Verdicts.{Passed}
use Rattle.netlist.specs.declared.netlist.Netlist.{Netlist}
use Rattle.netlist.specs.declared.refusal.Refusal.{Refusal}
use Rattle.netlist.specs.Holds.{modules_of}
use Rattle.netlist.specs.Layout.{Entry}
use Rattle.report.specs.Lines.{named, numbered, refused}
use Rattle.report.specs.Texts.{CheckText}

-- as `module 3 rs 7`: number, name and firings
abbrev pub counted : ℕ → ℕ → Entry → List ℕ
counted x = named (decimal x)

-- the firings of module k are the entry k - 1 of a list
abbrev pub count_line : List ℕ → ℕ → Entry → List ℕ
count_line firings k m = counted (slice_index firings (k - 1)) k m

-- the lines of all modules after t free steps
abbrev pub forecast_lines : Netlist → List ℕ → ℕ → List ℕ
forecast_lines n sizing t = numbered (λ k m. counted (freely (net_of n sizing) t k) k m) 1 (modules_of n)

-- what is printed of a netlist and its sizing: the firings after t free steps, or the refusal alone, of the check or of the forecast,
-- which has a list of 64 entries
abbrev pub StepsText : ℕ → Netlist → List ℕ → List ℕ → Type 0
StepsText t n sizing text =
    (Passed n × (forecast_fault n sizing t 64 ≡ None) × (text ≡ forecast_lines n sizing t))
    ⊎ (CheckText n text
    ⊎ ((x : Refusal) × Passed n × (forecast_fault n sizing t 64 ≡ Some x) × (text ≡ refused x)))
