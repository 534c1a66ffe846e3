use Rattle.std.proofs.Common.{◌≡◌, ◌-◌, ◌≤◌, length, ap, ◌∙◌, arith}
use Rattle.netlist.specs.Holds.{modules}
use Rattle.scale.specs.declared.elements.Total.{Total}
use Rattle.forecasting.proofs.Firing.{foretold, front_long, front_unfired}
use Rattle.forecasting.proofs.forecasts.foretell.Goals as goal

pub fire-requires-clause-unfired : goal.fire-requires-clause-unfired
fire-requires-clause-unfired c =
    let n = c.netlist.result.now in
    let m = length c.modules-n.result.now in
    let few : m - 0 ≤ 64 = omega (arith, ap length c.modules-n.ensures, n.modules.ok.0, n.some.1) in
    front_unfired c.start-cells.result (m - 0) (ap (λ (t : Total). t.sum) c.start-cells.ensures) few

pub returns : goal.returns
returns c =
    let n = c.netlist.result.now in
    let m = length c.modules-n.result.now in
    let count : m - 0 ≡ modules n = omega (arith, ap length c.modules-n.ensures, n.modules.ok.0) in
    let few : m - 0 ≤ 64 = omega (arith, count, n.some.1) in
    let long : length c.fire.new.totals ≡ modules n = c.fire.auto.totals ∙ front_long c.start-cells.result (m - 0) few ∙ count in
    foretold c.args.chip.netlist.now c.args.chip.sizing.now c.args.steps _ c.fire.new.totals c.args.firings.now c.put_sums.new.sums c.args.chip.tested
    (c.places.ensures ∙ c.of-graph.ensures.places) (long ∙ ap modules c.netlist.ensures) c.fire.ensures c.put_sums.ensures.front c.put_sums.ensures.behind
