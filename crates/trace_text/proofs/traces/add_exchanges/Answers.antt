use Rattle.std.proofs.Common.{arith}
use Rattle.report.proofs.Printed.{made_of}
use Rattle.trace_text.proofs.Answering.{trace_joined}
use Rattle.trace_text.proofs.traces.add_exchanges.Goals as goal

pub returns : goal.returns
returns c =
    made_of c.add_fills.result _ _ c.add_fills.ensures
    (λ _ e. trace_joined c.args.commands.now c.args.modules.now c.args.channels c.args.exchanges.now _ _ _ _ _ _ _ (omega (arith, c.requires)) (omega (arith, c.requires)) (omega (arith, c.requires)) c.requires c.in_ok-add_answers.ensures c.in_ok-add_firings.ensures e)
