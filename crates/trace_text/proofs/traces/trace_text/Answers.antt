use Rattle.std.proofs.Common.{rules}
use Rattle.report.proofs.Printed.{printed_if}
use Rattle.trace_text.specs.Traces.{TraceText}
use Rattle.trace_text.proofs.traces.trace_text.Goals as goal

pub returns : goal.returns
returns c = printed_if (TraceText c.args.request c.args.commands.now) c.args.file.now _ _ c.or_refusal.result _ c.read.ensures c.and_then-told.ensures (λ f h. search rules) c.or_refusal.ensures
