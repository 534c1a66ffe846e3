use Rattle.std.proofs.Common.{◌≡◌, ◌-◌, true, false, get_or, sym, ◌∙◌, rules, tests}
use Rattle.std.proofs.lemmas.Bool.{false≢true}
use Rattle.checking.specs.Faults.{Apart}
use Rattle.checking.specs.Nets.{Joined}
use Rattle.checking.proofs.Fills.{finds}
use Rattle.checking.proofs.apart.module_apart.Goals as goal

pub returns : goal.returns
returns c =
    let n = c.args.netlist.now in
    finds n c.modules-n.result.now (Joined n 1) (Apart n) _ _ c.modules-n.ensures c.lowest.ensures
    (λ v h s. let y : get_or c.join.new.at (v - 1) false ≡ true = search (rules, tests) in (c.join.ensures v h).0 y)
    (λ v h s es way. let no : get_or c.join.new.at (v - 1) false ≡ false = search (rules, tests) in false≢true (sym no ∙ (c.join.ensures v h).1 (es, way)))
    (λ v j apart. apart j.0 j.1)
