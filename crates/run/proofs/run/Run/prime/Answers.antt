use Rattle.std.proofs.Common.{length, refl}
use Rattle.calls.specs.Calls.{put}
use Rattle.queues.specs.Stands.{items}
use Rattle.run.proofs.Prime.{starts, told_prime}
use Rattle.run.proofs.Replying.{prime_ok}
use Rattle.run.proofs.run.Run.prime.Goals as goal

pub returns-clause-told : goal.returns-clause-told
returns-clause-told g c =
    let m = g.C.CoreSet in
    let s = c.args.self.now in
    let t = c.args.table.now in
    let r = m.rules s.cores in
    let h = m.held s.cores in
    λ ok chip k before td. (
      prime_ok ok before chip k s.inner r h t td (length t) c.if-self.false c.in_ok-room.ensures,
      told_prime ok before chip k s.inner r h t td c.if-self.false (length t) _ c.start.new.table c.start.ensures.kept
          (c.start.ensures.flow ok before (λ e. k.firings (chip.net.sink e)) (put chip.net k) (items chip) td.stands.flows
          (starts ok before chip k s.inner r h t td c.if-self.false s.inner.modules_high))
          refl refl refl refl refl,
    )
