use Rattle.std.proofs.Common.{rules}
use Rattle.std.proofs.lemmas.Iterator.{YieldsList-from_slice}
use Rattle.std.proofs.lemmas.Iterator.Search.{find_from_yields_List}
use Rattle.trace_text.specs.Lines.{refuses}
use Rattle.trace_text.proofs.Answering.{outcome_found}
use Rattle.trace_text.proofs.answers.outcome.Goals as goal

pub returns : goal.returns
returns c =
    outcome_found c.args.own.now _ _ _ (find_from_yields_List (λ x. refuses x.answer) _ _ _ c.find.ensures.ran (YieldsList-from_slice c.args.own.now cc) (λ x b q k. search rules))
    c.last.ensures.value (search rules)
