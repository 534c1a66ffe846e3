use Rattle.std.proofs.Common.{ap, ◌∙◌, arith, replicate}
use Rattle.std.proofs.lemmas.List.{get_or-replicate}
use Rattle.marked.specs.declared.level.Level.{Level}
use Rattle.marked.specs.Rounds.{arrival, blank, at_start}
use Rattle.marked.proofs.slow.search_in.Goals as goal

pub search-requires-clause-flat : goal.search-requires-clause-flat
search-requires-clause-flat g c = λ v h.
    let start : Level = record { arrivals = replicate 64 at_start } in
    ap (λ l. arrival l v) (get_or-replicate g.row.COUNT 0 start blank (omega (arith, c.requires.long)))
    ∙ get_or-replicate 64 v at_start at_start h
