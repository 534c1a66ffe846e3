use Rattle.std.proofs.Common.{◌≡◌, ℕ, None as Nothing, refl, rules}
use Rattle.std.specs.Int.{IsInRange}
use Rattle.netlist.specs.Holds.{modules}
use Rattle.checking.specs.Faults.{Apart, Nobody}
use Rattle.checking.specs.Nets.{Joined}
use Rattle.checking.proofs.Passes.{passed}
use Rattle.checking.proofs.checked.check.Goals as goal

pub returns-in_err-pass-3 : goal.returns-in_err-pass-3
returns-in_err-pass-3 c =
    let n = c.args.netlist.now in
    let joined : (v : ℕ) → IsInRange 1 (modules n) v → Joined n 1 v = search rules in
    let apart : Nobody (modules n) (Apart n) = λ v h a. let j = joined v h in a j.0 j.1 in
    search (rules, apart)

pub returns : goal.returns
returns c =
    let none : c.ringed_module.result ≡ Nothing = search rules in
    (refl, passed c.args.netlist.now (search rules) (search rules) (rw none at c.ringed_module.ensures))

pub invariant_of-result : goal.invariant_of-result
invariant_of-result c =
    let n = c.args.netlist.now in
    let joined : (v : ℕ) → IsInRange 1 (modules n) v → Joined n 1 v = search rules in
    let none : c.ringed_module.result ≡ Nothing = search rules in
    record { faultless = record { relay_ends = search rules; joined = λ v h a. let j = joined v h in a j.0 j.1; no_ring = rw none at c.ringed_module.ensures } }
