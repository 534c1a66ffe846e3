use Rattle.std.proofs.Common.{◌≡◌, ℕ, ◌<◌, ◌≤◌, Bool, true, List, length, take, get_or, sym, ap, ◌∙◌, subst, rules, arith}
use Rattle.std.proofs.lemmas.List.{get_or-take, length-take-le}
use Rattle.queues.specs.declared.queue.Queue.{Queue}
use Rattle.queues.specs.declared.channels.Channels.{Channels}
use Rattle.queues.specs.Parts.{ReadyIn, blank}
use Rattle.queues.specs.Flows.{ReadyAt, queue_at}
use Rattle.queues.proofs.channels.Channels.ready.Goals as goal

-- what the front of the array says, the channels say
of_front : (w : Channels) (v : ℕ) (qs : List Queue) → qs ≡ take w.count w.queues → length qs ≡ w.count → (r : Bool)
    → (r ≡ true → ReadyIn qs v (length qs)) × (ReadyIn qs v (length qs) → r ≡ true) → (r ≡ true → ReadyAt w v w.count) × (ReadyAt w v w.count → r ≡ true)
of_front w v qs is len r decides = (
  λ y.
      let rd = decides.0 y in
      record {
        feeds = λ e lt. subst (λ (c : Queue). c.sink ≡ v → 1 ≤ c.fill) (same e lt) (rd.feeds e (omega (arith, len)));
        room = λ e lt. subst (λ (c : Queue). c.source ≡ v → c.fill ≤ c.size) (same e lt) (rd.room e (omega (arith, len)));
      },
  λ rd.
      decides.1 (record {
        feeds = λ e lt. subst (λ (c : Queue). c.sink ≡ v → 1 ≤ c.fill) (sym (same e (omega (arith, len)))) (rd.feeds e (omega (arith, len)));
        room = λ e lt. subst (λ (c : Queue). c.source ≡ v → c.fill ≤ c.size) (sym (same e (omega (arith, len)))) (rd.room e (omega (arith, len)));
      }),
)
  where
    same : (e : ℕ) → e < w.count → get_or qs e blank ≡ queue_at w e
    same e lt = ap (λ (xs : List Queue). get_or xs e blank) is ∙ get_or-take w.count w.queues e blank lt

pub returns : goal.returns
returns c =
    let w = c.args.self.now in
    let qs = c.queues.result.now in
    let whole : length w.queues ≡ 192 = search rules in
    let len : length qs ≡ w.count = ap length c.queues.ensures ∙ length-take-le w.count w.queues (omega (arith, w.count_high, whole)) in
    of_front w c.args.v qs c.queues.ensures len c.ready.result c.ready.ensures
