use Rattle.std.proofs.Common.{◌≡◌, ◌+◌, ◌-◌, arith}
use Rattle.cores.specs.Sets.{origin_start}
use Rattle.cores.proofs.origin.OriginSet.new.Goals as goal

pub returns : goal.returns
returns c = λ v low high.
    let k = c.from_fn-states.ensures.items.at (v - 1) (origin_start 0) (omega arith) in
    let made = k.2.met in
    let back : (v - 1) + 1 ≡ v = omega arith in
    grind (arith, back, made)
