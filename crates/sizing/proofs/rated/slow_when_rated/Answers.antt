use Rattle.sizing.proofs.Targets.{rate_decides, slow_found}
use Rattle.sizing.proofs.rated.slow_when_rated.Goals as goal

pub returns-then-p-b : goal.returns-then-p-b
returns-then-p-b c = (rate_decides _ _ _ _ _ c.rated_cycle-rated.ensures.is_rate c.args.target.proper).1 (rw (c.fraction-a.ensures.a, c.fraction-a.ensures.b) at c.if-p-b.true)

pub returns : goal.returns
returns c = slow_found _ _ _ _ _ _ _ _ _ c.args.target.proper c.rated_cycle-rated.ensures (rw (c.fraction-a.ensures.a, c.fraction-a.ensures.b) at c.if-p-b.false)
