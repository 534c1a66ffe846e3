use Rattle.std.proofs.Common.{length, refl, ap, arith, rules}
use Rattle.std.proofs.lemmas.Grind.{elements}
use Rattle.std.proofs.lemmas.List.{length-take-le}
use Rattle.netlist.specs.Faults.{verdict}
use Rattle.netlist.specs.Gathers.{gathered}
use Rattle.netlist.proofs.Exact.{says_of}
use Rattle.netlist.proofs.Filled.{fits_verdict, kept_netlist, same_count}
use Rattle.netlist.proofs.Kept.{valid_kept}
use Rattle.netlist.proofs.reading.read.Goals as goal

pub invariant_of-drop : goal.invariant_of-drop
invariant_of-drop c =
    let all = c.in_ok-modules.field-0 in
    let k = kept_netlist _ _ _ all.modules.ok.0 (valid_kept (gathered all) (says_of c.args.file.now (gathered all) c.in_ok-modules.ensures).valid) in
    record { some = k.some; few = search rules; sources = k.sources; sinks = k.sinks }

pub put_sizes-requires : goal.put_sizes-requires
put_sizes-requires c =
    let all = c.in_ok-modules.field-0 in
    let is = c.in_ok-modules.ensures in
    let count = same_count (verdict c.args.file.now) c.in_ok-count.count (gathered all) c.in_ok-count.ensures is in
    let sized = (says_of c.args.file.now (gathered all) is).valid.sized in
    omega (arith, count, sized, ap length c.deref.ensures.value, length-take-le c.in_ok-count.count c.args.sizing.now (omega arith))

pub returns : goal.returns
returns c =
    let all = c.in_ok-modules.field-0 in
    let is = c.in_ok-modules.ensures in
    let count = same_count (verdict c.args.file.now) c.in_ok-count.count (gathered all) c.in_ok-count.ensures is in (
      gathered all,
      fits_verdict c.args.file.now _ (gathered all) is (omega (arith, count)),
      says_of c.args.file.now (gathered all) is,
      record {
        modules = refl;
        channels = refl;
        sizes = λ k h. grind (arith, elements, count, c.put_sizes.ensures k, c.deref.ensures.value);
        behind = λ k h. grind (arith, elements, count);
      },
    )
