use Rattle.std.proofs.Common.{rules}
use Rattle.forecasting.proofs.Firing.{all_fired}
use Rattle.forecasting.proofs.forecasts.fire.Goals as goal

pub returns : goal.returns
returns c = all_fired c.args.places.now c.args.totals.now _ c.rounds.new.elements c.args.steps c.requires.starts c.requires.unfired c.weigh.ensures c.requires.steps (search rules) c.rounds.ensures.listed
