use Rattle.std.proofs.Common.{rules}
use Rattle.netlist.specs.Holds.{entry_of}
use Rattle.report.specs.Lines.{module_line}
use Rattle.report.proofs.Numbered.{rating_joined}
use Rattle.report.proofs.lines.rating_text.Goals as goal

pub returns : goal.returns
returns c =
    rating_joined _ _ c.args.places.now c.args.modules.now c.args.potentials.now _ _ _ _
    c.in_ok-text.ensures.ok c.in_ok-add_places.ensures c.in_ok-push_str.ensures.bytes
    (c.in_ok-add_lines.ensures (λ k m. module_line c.args.potentials.now k (entry_of m)) (λ k m r says. search rules))
