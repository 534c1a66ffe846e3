use Rattle.std.proofs.Common.{◌≡◌, ℕ, ◌<◌, ◌≤◌, Bool, true, false, List, length, refl, rules, arith}
use Rattle.std.proofs.lemmas.Bool.{false≢true}
use Rattle.std.proofs.lemmas.Iterator.{cases_from_all, YieldsList-from_slice}
use Rattle.std.specs.Bool.{MatchBool}
use Rattle.std.specs.List.{AllWithin, HoldsAt}
use borrow.Author.Tests.{tests}
use Rattle.queues.specs.declared.queue.Queue.{Queue}
use Rattle.queues.specs.Parts.{ReadyIn, blank}
use Rattle.queues.proofs.channels.ready.Goals as goal

-- a channel lets v fire
abbrev Lets : ℕ → Queue → Type 0
Lets v c = (c.sink ≡ v → 1 ≤ c.fill) × (c.source ≡ v → c.fill ≤ c.size)

decided : (v : ℕ) (qs : List Queue) (r : Bool)
    → MatchBool r (AllWithin (Lets v) qs 0 (length qs)) ((k : ℕ) × (k < length qs) × HoldsAt (λ c. Lets v c → ⊥) qs k)
    → (r ≡ true → ReadyIn qs v (length qs)) × (ReadyIn qs v (length qs) → r ≡ true)
decided v qs true each = (λ y. record { feeds = λ e lt. (each e blank (omega arith) lt).0; room = λ e lt. (each e blank (omega arith) lt).1 }, λ rd. refl)
decided v qs false one = (λ y. absurd (false≢true y), λ rd. absurd (one.2 blank (rd.feeds one.0 one.1, rd.room one.0 one.1)))

pub returns : goal.returns
returns c =
    let qs = c.args.queues.now in
    let v = c.args.v in
    decided v qs c.all.result
    (cases_from_all _ _ _ (Lets v) (λ x. Lets v x → ⊥) c.all.ensures.ran (YieldsList-from_slice qs (search rules)) (λ x q k. search (rules, tests)) (λ x q k. search (rules, tests)))
