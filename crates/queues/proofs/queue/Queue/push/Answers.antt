use Rattle.std.proofs.Common.{◌+◌, ◌%◌, ◌<◌, length, refl, arith}
use Rattle.std.proofs.lemmas.Nat.{mod_below}
use Rattle.queues.proofs.Queues.{push_holds}
use Rattle.queues.proofs.queue.Queue.push.Goals as goal

pub returns-then-self-clause-flow : goal.returns-then-self-clause-flow
returns-then-self-clause-flow g c = λ ok before took put stream h room is.
    let ch = c.args.self.now in
    let xs = c.args.table.now in
    let at = ch.base + (ch.oldest + ch.fill) % (ch.size + 1) in
    let turned : (ch.oldest + ch.fill) % (ch.size + 1) < ch.size + 1 = mod_below _ _ (omega arith) in
    let inside : at < length xs = omega (arith, c.requires.within) in
    push_holds ch xs ok before took put stream h c.args.item at refl inside is
