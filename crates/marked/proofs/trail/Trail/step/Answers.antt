use Rattle.std.proofs.Common.{◌+◌, refl, arith, rules}
use Rattle.marked.specs.Rounds.{stop}
use Rattle.marked.proofs.Back.{lowered_by, stepped}
use Rattle.marked.proofs.trail.Trail.step.Goals as goal

pub bounds-weighed-p : goal.bounds-weighed-p
bounds-weighed-p c =
    (lowered_by c.args.weighed c.args.levels.now c.args.self.now.peak c.requires.rounds c.args.k (c.args.k + 1) (stop c.args.self.now (c.args.k + 1)) c.in-Some.p
    (omega arith) (omega arith) (c.requires.back.inside (c.args.k + 1) (omega arith) (omega arith)) c.in-Some.is).0

pub returns : goal.returns
returns c =
    let r = stepped c.args.weighed c.args.levels.now c.args.k c.in-Some.p _ c.args.self.now _ c.requires.rounds c.requires.high c.requires.within (search rules) c.requires.back c.requires.apart c.in-Some.is in
    record { peak = refl; back = r.0; apart = r.1 }
