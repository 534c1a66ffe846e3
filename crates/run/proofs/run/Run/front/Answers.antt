use Rattle.std.proofs.Common.{◌≡◌, ℕ, ◌+◌, ◌≤◌, true, length, get_or, refl, subst, arith, MatchOption}
use Rattle.queues.specs.Flows.{queue_at}
use Rattle.run.proofs.Replying.{front_told}
use Rattle.run.proofs.run.Run.front.Goals as goal

pub returns-clause-told : goal.returns-clause-told
returns-clause-told g c = λ chip k before td.
    let m = g.C.CoreSet in
    let s = c.args.self.now in
    let w = s.inner.channels in
    let t = c.args.table.now in
    let at = c.in_ok-e.ensures in
    let P : ℕ → Type 0 = λ e. MatchOption c.front.result ((queue_at w e).fill ≡ 0) (λ x. (1 ≤ (queue_at w e).fill) × ((d : g.row.C-Item.Denot) → x ≡ get_or t ((queue_at w e).base + (queue_at w e).oldest) d)) in
    front_told true before chip k s.inner (m.rules s.cores) (m.held s.cores) t td (length t) c.args.channel c.front.result refl c.in_ok-after_prime.ensures c.in_ok-room.ensures (λ z. omega (arith, at.0, z)) at.1 (subst P at.2 c.front.ensures)
