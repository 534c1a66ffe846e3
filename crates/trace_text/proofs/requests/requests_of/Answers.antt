use Rattle.std.proofs.Common.{vec_items, rules}
use Rattle.trace_text.specs.declared.command.Command.TheVariants.{Firings, Fill, Front}
use Rattle.trace_text.proofs.Requesting.{four}
use Rattle.trace_text.proofs.requests.requests_of.Goals as goal

pub returns : goal.returns
returns c =
    four (vec_items c.add_all.new.list) (vec_items c.add_each.new.list) (vec_items c.add_each-2.new.list) (vec_items c.add_each-3.new.list) (vec_items c.in_ok-list.list) c.args.commands.now
    (λ v. Firings v) (λ e. Fill e) (λ e. Front e) c.args.modules c.args.channels c.in_ok-list.ensures.items c.in_ok-add_all.ensures
    (c.in_ok-add_each.ensures (λ v. Firings v) (λ k d p. search rules)) (c.in_ok-add_each-2.ensures (λ e. Fill e) (λ k d p. search rules)) (c.in_ok-add_each-3.ensures (λ e. Front e) (λ k d p. search rules))
