use Rattle.std.proofs.Common.{◌≡◌, List, ℕ, None, ap, ◌∙◌, subst, inl, inr, vec_items, string_bytes}
use Rattle.checking.specs.Verdicts.{Passed}
use Rattle.forecasting.specs.Forecasts.{forecast_fault}
use Rattle.netlist.specs.declared.netlist.Netlist.{Netlist}
use Rattle.report.specs.Files.{sizes_of}
use Rattle.report.specs.Forecasts.{StepsText}
use Rattle.report.proofs.Foretold.{counted_text}
use Rattle.report.proofs.Printed.{check_told}
use Rattle.report.proofs.forecasts.steps_text.Goals as goal

pub returns-in_err-checked : goal.returns-in_err-checked
returns-in_err-checked c =
    let file = c.args.file.now in
    check_told (StepsText c.args.steps file.netlist (sizes_of file)) file.netlist _ _ c.in_err-checked.field-0.0 (λ text h. inr (inl h)) c.netlist-netlist.ensures c.in_err-checked.ensures
    c.from_residual.ensures.1

pub returns : goal.returns
returns c =
    let n = c.args.file.now.netlist in
    let t = c.args.steps in
    let same = c.in_ok-checked.ensures.0 ∙ c.netlist-netlist.ensures in
    let told = c.in_ok-forecast.ensures in
    let qs = c.sizing.result.now in
    let own = c.sizing.ensures in
    subst (λ (s : List ℕ). StepsText t n s (string_bytes c.in_ok-text.text)) own (inl (
      subst Passed same c.in_ok-checked.ensures.1,
      subst (λ (i : Netlist). forecast_fault i qs t 64 ≡ None) same told.0,
      counted_text _ n qs t _ _ _ _ same told.1 (c.modules.ensures ∙ ap (λ (i : Netlist). vec_items i.modules) c.netlist-netlist.ensures) c.in_ok-text.ensures,
    ))
