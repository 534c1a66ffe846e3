use Rattle.std.proofs.Common.{◌≡◌, ◌-◌, ◌^◌, ◌⊎◌, inl, inr, ap, ◌∙◌}
use Rattle.scale.specs.declared.elements.Total.{Total}
use Rattle.forecasting.proofs.Tables.{lightest_is}
use Rattle.forecasting.proofs.weights.lightest.Goals as goal
use Rattle.forecasting.proofs.weights.lightest.Goals.{then-from-to, else-from-to}

pub returns : goal.returns
returns c =
    let u = c.args.from in
    let v = c.args.to in
    let first = c.if-from-to.first in
    let start : ((u ≡ v) × (first ≡ 1)) ⊎ ((u ≡ v → ⊥) × (first ≡ 2 ^ 32 - 1)) =
    elim c.if-from-to.branch [
      | then-from-to w ↦ inl (w.if-from-to.true, w.first-is)
      | else-from-to w ↦ inr (w.if-from-to.false, w.first-is ∙ ap (λ (t : Total). t.sum) w.no_way.ensures)
    ] in
    rw c.least_tokens.ensures (lightest_is u v c.args.places.now first start)
