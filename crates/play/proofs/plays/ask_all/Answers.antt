use Rattle.std.proofs.Common.{◌≡◌, true, Some, List, [], ◌++◌, length, get_or, take, drop, sym, refl, ap, ◌∙◌, subst, ap₂, append-nil, take_all}
use Rattle.std.proofs.lemmas.List.{drop_all}
use Rattle.calls.specs.Calls.{Count, after, counted_from}
use Rattle.run.specs.Tells.{Tells}
use Rattle.play.specs.declared.exchange.Exchange.{Exchange}
use Rattle.play.specs.declared.exchange.Request.{Request}
use Rattle.play.specs.Answers.{answer, answered_from, asked, calls_of}
use Rattle.play.proofs.Listing.{next_there, one_answered, one_counted_more}
use Rattle.play.proofs.plays.ask_all.Goals as goal

pub loop-i-init : goal.loop-i-init
unfolding counted_from answered_from calls_of
loop-i-init g c = λ chip k before td. (refl, td)

pub loop-i-preserved : goal.loop-i-preserved
loop-i-preserved g c = λ chip k before td.
    let m = g.C.CoreSet in
    let i = c.loop-i.i in
    let xs = c.args.exchanges.now in
    let ys = c.loop-i.exchanges in
    let n = length c.args.table.now in
    let lt = c.loop-i-test.true in
    let so_far = c.loop-i.invariant chip k before td in
    let same : length c.loop-i.table ≡ n = c.loop-i.auto.table in
    let e : Exchange g.row.C-Item.Denot = c.index-exchanges-i.result in
    let at_i = counted_from chip.net k (calls_of n (take i xs)) in
    let req : Request = (get_or ys i e).request in
    let here : (c.ask.result ≡ answer chip at_i (asked (length c.loop-i.table) req)) × Tells true m.rules m.held chip (after chip.net at_i (asked (length c.loop-i.table) req)) before c.ask.new.run c.ask.new.table = c.ask.ensures chip at_i before so_far.1 in
    let request_is : req ≡ (get_or xs i e).request = ap (λ (x : Exchange g.row.C-Item.Denot). x.request) (next_there chip n k xs ys i lt e so_far.0 e) in
    let asked_is : asked (length c.loop-i.table) req ≡ asked n (get_or xs i e).request = ap₂ asked same request_is in (
      one_answered chip n k xs ys i lt e so_far.0 (record { request = req; answer = Some c.ask.result })
          (ap₂ (λ (r : Request) (a : _). record { request = r; answer = Some a }) request_is (here.0 ∙ ap (answer chip at_i) asked_is)),
      subst (λ (d : Count). Tells true m.rules m.held chip d before c.ask.new.run c.ask.new.table)
          (ap (after chip.net at_i) asked_is ∙ sym (one_counted_more chip n k xs ys i lt e so_far.0)) here.1,
    )

pub returns : goal.returns
returns g c = λ chip k before td.
    let m = g.C.CoreSet in
    let i = c.loop-i.i in
    let xs = c.args.exchanges.now in
    let n = length c.args.table.now in
    let so_far = c.loop-i.invariant chip k before td in
    let all : take i xs ≡ xs = take_all i xs c.loop-i-test.false in
    let none : drop i xs ≡ [] = drop_all i xs c.loop-i-test.false in (
      so_far.0 ∙ ap₂ (λ ys zs. answered_from chip n k ys ++ zs) all none ∙ append-nil (answered_from chip n k xs),
      subst (λ (ys : List (Exchange g.row.C-Item.Denot)). Tells true m.rules m.held chip (counted_from chip.net k (calls_of n ys)) before c.loop-i.run c.loop-i.table) all so_far.1,
    )
