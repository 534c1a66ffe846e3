use Rattle.std.proofs.Common.{◌<◌, length, List, ℕ, sym, subst₂, arith}
use Rattle.queues.specs.declared.queue.Queue.{Queue}
use Rattle.run.specs.Making.{LaidOut}
use Rattle.run.proofs.Laying.{laid_none, laid_add}
use Rattle.run.proofs.make.lay.Goals as goal

pub loop-e-init : goal.loop-e-init
loop-e-init c =
    let cs = c.args.channels.now in
    let qs = c.args.sizing.now in
    let made = c.new-laid.ensures in
    (made.count, subst₂ (λ (xs : List Queue) (n : ℕ). LaidOut cs qs xs 0 n) (sym made.queues) (sym made.entries) (laid_none cs qs))

pub loop-e-preserved : goal.loop-e-preserved
loop-e-preserved c =
    let within : c.loop-e.e < length c.args.channels.now = omega arith in
    let told = c.add.ensures in
    laid_add c.args.channels.now c.args.sizing.now c.loop-e.laid c.add.new.self c.loop-e.e c.loop-e.invariant (omega (arith, within, c.requires.few)) (c.requires.small c.loop-e.e (omega (arith, within, c.requires.same))) told.count told.entries told.queues
