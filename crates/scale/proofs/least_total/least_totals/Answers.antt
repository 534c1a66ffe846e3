use Rattle.scale.proofs.Meanings.{least_walk}
use Rattle.scale.proofs.least_total.least_totals.Goals as goal

pub returns : goal.returns
returns c = λ v l. rw (c.rounds.ensures.listed v l) (least_walk c.args.totals.now c.args.weights.now c.args.k v l)
