use Rattle.scale.proofs.Meanings.{some_walk}
use Rattle.scale.proofs.yes_no.reach.Goals as goal

pub returns : goal.returns
returns c = λ v l. rw (c.rounds.ensures.listed v l) (some_walk c.args.at.now c.args.moves.now c.args.k v l)
