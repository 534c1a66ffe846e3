use Rattle.std.proofs.Common.{vec_items}
use Rattle.trace_text.specs.declared.command.Command.TheVariants.{Prime}
use Rattle.trace_text.proofs.Requesting.{all_commands, one_command}
use Rattle.trace_text.proofs.requests.add_all.Goals as goal

pub loop-command-preserved : goal.loop-command-preserved
loop-command-preserved c = one_command (vec_items c.args.list.now) (vec_items c.loop-command.list) _ c.args.commands.now c.loop-command.command-index Prime c.loop-command-test.true c.in_ok-add.ensures c.loop-command.invariant

pub returns : goal.returns
returns c = all_commands (vec_items c.args.list.now) (vec_items c.loop-command.list) c.args.commands.now c.loop-command.command-index c.loop-command-test.false c.loop-command.invariant
