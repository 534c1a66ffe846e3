use Rattle.queues.proofs.Queues.{front, pop_holds}
use Rattle.queues.proofs.queue.Queue.pop.Goals as goal

pub returns-clause-flow : goal.returns-clause-flow
returns-clause-flow g c = λ ok before took put stream h less. (
  (λ t. front c.args.self.now c.args.table.now ok before took put stream h t c.in_ok-item.item less c.requires.fill_high (c.in_ok-item.ensures.1 c.in_ok-item.item)),
  pop_holds c.args.self.now c.args.table.now ok before took put stream h less,
)
