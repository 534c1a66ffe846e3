use Rattle.std.proofs.Common.{◌≡◌, ◌+◌, take, ◌∙◌, arith}
use Rattle.std.proofs.lemmas.List.{take_all}
use Rattle.report.proofs.Numbered.{lines_more}
use Rattle.report.proofs.listing.add_lines.Goals as goal

pub loop-at-preserved : goal.loop-at-preserved
loop-at-preserved g c = λ says answers.
    let i = c.loop-at.at in
    lines_more says c.args.list.now i c.index-list-at.result _ _ _ _ (omega arith) c.index-list-at.is
    (c.loop-at.invariant says answers) (c.as_str.ensures.value ∙ answers (i + 1) _ _ c.in_ok-line.ensures) c.in_ok-push_str.ensures.bytes

pub returns : goal.returns
returns g c = λ says answers. let all : take c.loop-at.at c.args.list.now ≡ c.args.list.now = take_all _ _ (omega arith) in rw all at c.loop-at.invariant says answers
