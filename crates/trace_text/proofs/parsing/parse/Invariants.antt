use Rattle.std.proofs.Common.{length}
use Rattle.trace_text.proofs.parsing.parse.Given as goal

abbrev pub decreases-loop-command : goal.decreases-loop-command
decreases-loop-command l = length l.rest
