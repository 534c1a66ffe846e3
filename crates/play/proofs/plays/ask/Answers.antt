use Rattle.std.proofs.Common.{true, length, min}
use Rattle.std.proofs.lemmas.Result.{err_from_is_err_and}
use Rattle.calls.specs.Calls.{prime, refusal, step}
use Rattle.run.specs.Replies.{front_item}
use Rattle.play.specs.declared.exchange.Reply.TheVariants.{Done, Item}
use Rattle.play.proofs.Lending.{front_lent, lent_call, prime_enough, step_enough}
use Rattle.play.proofs.Listing.{accepted_too, refused_too, unless_same}
use Rattle.play.proofs.plays.ask.Goals as goal

pub returns-in_err-prime-in-Prime : goal.returns-in_err-prime-in-Prime
returns-in_err-prime-in-Prime g c = λ chip k before td.
    let m = g.C.CoreSet in
    let t = c.args.table.now in
    let call = prime (min c.in-Prime.n (length t)) in
    let told = lent_call m.rules m.held chip k before c.args.run.now t td prime c.in-Prime.n c.lent-n.result c.prime.result c.prime.new.self c.prime.new.table (prime_enough chip k)
    c.lent-n.ensures.is c.lent-n.ensures.within c.prime.auto.table (λ ok start. c.prime.ensures.told ok chip k start) c.prime.ensures.refused in
    let gave = err_from_is_err_and c.from_residual.result c.from_residual.ensures.1 in
    rw (c.in-Prime.is, gave.1, gave.2) (refused_too (refusal chip.net k call) c.prime.result _ tt Done c.in_err-prime-in-Prime.was told.0, told.1)

pub returns-in_ok-prime-in-Prime : goal.returns-in_ok-prime-in-Prime
returns-in_ok-prime-in-Prime g c = λ chip k before td.
    let m = g.C.CoreSet in
    let t = c.args.table.now in
    let call = prime (min c.in-Prime.n (length t)) in
    let told = lent_call m.rules m.held chip k before c.args.run.now t td prime c.in-Prime.n c.lent-n.result c.prime.result c.prime.new.self c.prime.new.table (prime_enough chip k)
    c.lent-n.ensures.is c.lent-n.ensures.within c.prime.auto.table (λ ok start. c.prime.ensures.told ok chip k start) c.prime.ensures.refused in
    rw c.in-Prime.is (accepted_too (refusal chip.net k call) c.prime.result tt _ (λ _. Done) c.in_ok-prime-in-Prime.was told.0, told.1)

pub returns-in_err-step-in-Step : goal.returns-in_err-step-in-Step
returns-in_err-step-in-Step g c = λ chip k before td.
    let m = g.C.CoreSet in
    let t = c.args.table.now in
    let call = step (min c.in-Step.n (length t)) in
    let told = lent_call m.rules m.held chip k before c.args.run.now t td step c.in-Step.n c.lent-n-in-Step.result c.step.result c.step.new.self c.step.new.table (step_enough chip k)
    c.lent-n-in-Step.ensures.is c.lent-n-in-Step.ensures.within c.step.auto.table (λ ok start. c.step.ensures.told ok chip k start) c.step.ensures.refused in
    let gave = err_from_is_err_and c.from_residual-in_err-step-in-Step.result c.from_residual-in_err-step-in-Step.ensures.1 in
    rw (c.in-Step.is, gave.1, gave.2) (refused_too (refusal chip.net k call) c.step.result _ tt Done c.in_err-step-in-Step.was told.0, told.1)

pub returns-in_ok-step-in-Step : goal.returns-in_ok-step-in-Step
returns-in_ok-step-in-Step g c = λ chip k before td.
    let m = g.C.CoreSet in
    let t = c.args.table.now in
    let call = step (min c.in-Step.n (length t)) in
    let told = lent_call m.rules m.held chip k before c.args.run.now t td step c.in-Step.n c.lent-n-in-Step.result c.step.result c.step.new.self c.step.new.table (step_enough chip k)
    c.lent-n-in-Step.ensures.is c.lent-n-in-Step.ensures.within c.step.auto.table (λ ok start. c.step.ensures.told ok chip k start) c.step.ensures.refused in
    rw c.in-Step.is (accepted_too (refusal chip.net k call) c.step.result tt _ (λ _. Done) c.in_ok-step-in-Step.was told.0, told.1)

pub returns-in_err-front-in-Front : goal.returns-in_err-front-in-Front
returns-in_err-front-in-Front g c = λ chip k before td.
    let m = g.C.CoreSet in
    let t = c.args.table.now in
    let e = c.in-Front.channel in
    let told = front_lent m.rules m.held chip k before c.args.run.now t td e c.in-Front.n c.lent-n-in-Front.result c.front.result c.lent-n-in-Front.ensures.is c.lent-n-in-Front.ensures.within
    (c.front.ensures.told chip k _) (c.front.ensures.short true chip k before t td) in
    let gave = err_from_is_err_and c.from_residual-in_err-front-in-Front.result c.from_residual-in_err-front-in-Front.ensures.1 in
    rw (c.in-Front.is, gave.1, gave.2, unless_same) (refused_too _ c.front.result _ _ (Item (front_item chip k e)) c.in_err-front-in-Front.was told, td)

pub returns-in_ok-front-in-Front : goal.returns-in_ok-front-in-Front
returns-in_ok-front-in-Front g c = λ chip k before td.
    let m = g.C.CoreSet in
    let t = c.args.table.now in
    let e = c.in-Front.channel in
    let told = front_lent m.rules m.held chip k before c.args.run.now t td e c.in-Front.n c.lent-n-in-Front.result c.front.result c.lent-n-in-Front.ensures.is c.lent-n-in-Front.ensures.within
    (c.front.ensures.told chip k _) (c.front.ensures.short true chip k before t td) in
    rw (c.in-Front.is, c.into.ensures, unless_same) (accepted_too _ c.front.result _ _ (λ x. Item x) c.in_ok-front-in-Front.was told, td)
