use Rattle.std.proofs.Common.{rules, tests}
use Rattle.sizing.proofs.Caps.{caps_tested}
use Rattle.sizing.proofs.requests.test_caps.Goals as goal

pub returns : goal.returns
returns c = caps_tested c.args.sizing.now c.args.caps.now _ c.test_bytes.result c.test_bytes.ensures (λ k q s. search (rules, tests))
