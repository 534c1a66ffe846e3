use Rattle.std.proofs.Common.{rules, tests}
use Rattle.rating.proofs.Sizes.{sizing_tested}
use Rattle.rating.proofs.sizing.test_sizing.Goals as goal

pub returns : goal.returns
returns c = sizing_tested c.args.channels c.args.sizing.now _ c.test_bytes.result c.test_bytes.ensures (λ k q s. search (rules, tests))
