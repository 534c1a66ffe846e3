use Rattle.std.proofs.Common.{true, false, Decides, refl, rules, tests}
use Rattle.std.proofs.lemmas.Bool.Decides.{not_from_Decides}
use Rattle.checking.specs.Faults.{Ringed}
use Rattle.checking.proofs.Fills.{finds}
use Rattle.checking.proofs.rings.ringed_module.Goals as goal

pub returns : goal.returns
returns c =
    let n = c.args.netlist.now in
    finds n c.modules-n.result.now (λ v. Ringed n v → ⊥) (Ringed n) _ _ c.modules-n.ensures c.lowest.ensures
    (λ v h s. let d : Decides false (Ringed n v) = search (rules, tests) in not_from_Decides false d refl)
    (λ v h s. let d : Decides true (Ringed n v) = search (rules, tests) in d.0 refl)
    (λ v no yes. no yes)
