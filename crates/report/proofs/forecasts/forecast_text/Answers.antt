use Rattle.std.proofs.Common.{rules}
use Rattle.report.specs.Forecasts.{StepsText}
use Rattle.report.proofs.Printed.{printed_if}
use Rattle.report.proofs.forecasts.forecast_text.Goals as goal

pub returns : goal.returns
returns c = printed_if (StepsText c.args.steps) c.args.file.now _ _ c.or_refusal.result _ c.read.ensures c.and_then-told.ensures (λ f h. search rules) c.or_refusal.ensures
