use Rattle.report.proofs.Printed.{made_of, rated_text}
use Rattle.report.proofs.texts.checked_text.Goals as goal

pub returns : goal.returns
returns c =
    made_of c.rating_text.result _ _ c.rating_text.ensures
    (λ s e. rated_text _ c.args.sizing.now _ _ _ _ c.in-Ok.rating _ _ _ _ _ c.in-Ok.ensures c.length-length.ensures c.rate-2.ensures c.netlist.ensures c.modules-modules.ensures e)
