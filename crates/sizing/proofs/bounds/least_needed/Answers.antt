use Rattle.std.proofs.Common.{◌≡◌, ℕ, List, None, ◌∙◌, arith}
use Rattle.netlist.specs.declared.netlist.Netlist.{Netlist}
use Rattle.netlist.specs.Holds.{channels}
use Rattle.rating.specs.Sizings.{sizing_fault}
use Rattle.sizing.specs.Candidates.{AtLeast}
use Rattle.sizing.specs.Trials.{Low, Ready}
use Rattle.sizing.proofs.Charging.{charged}
use Rattle.sizing.proofs.Deeper.{lent_covers}
use Rattle.sizing.proofs.Readying.{ready_between}
use Rattle.sizing.proofs.Tables.{least_trans}
use Rattle.sizing.proofs.bounds.least_needed.Goals as goal

-- every raised table is a sizing under the caps
between : (n : Netlist) (caps sizes raised : List ℕ) → Low caps → sizing_fault (channels n) sizes ≡ None → AtLeast sizes caps → AtLeast sizes raised → AtLeast raised caps → Ready n caps raised
between n caps sizes raised low tested most above under = ready_between n caps sizes raised low (record { sized = tested; under = most }) above under

pub new-deeper-requires : goal.new-deeper-requires
new-deeper-requires c =
    rw c.netlist.ensures (between c.args.chip.netlist.now c.args.aim.caps.now c.args.chip.sizing.now c.loop-need.raised c.args.aim.low c.args.chip.tested c.requires c.loop-need.invariant.0 c.loop-need.invariant.1).sized

pub lift-requires : goal.lift-requires
lift-requires c =
    let ready = between c.args.chip.netlist.now c.args.aim.caps.now c.args.chip.sizing.now c.loop-need.raised c.args.aim.low c.args.chip.tested c.requires c.loop-need.invariant.0 c.loop-need.invariant.1 in
    record {
      within = (lent_covers (c.new-deeper.ensures.netlist ∙ c.netlist.ensures) c.new-deeper.ensures.sizing ready c.in-Some.ensures.0).places;
      under = c.loop-need.invariant.1;
    }

pub loop-need-preserved : goal.loop-need-preserved
loop-need-preserved c =
    let n = c.args.chip.netlist.now in
    let a = c.args.aim.target.a in
    let b = c.args.aim.target.b in
    let caps = c.args.aim.caps.now in
    let sizes = c.args.chip.sizing.now in
    let raised = c.loop-need.raised in
    let cycle = c.slow_cycle_with_tokens.new.cycle in
    let slow = c.in-Some.slow in
    let found = rw (c.new-deeper.ensures.netlist ∙ c.netlist.ensures, c.new-deeper.ensures.sizing) at c.in-Some.ensures in
    let ready = between n caps sizes raised c.args.aim.low c.args.chip.tested c.requires c.loop-need.invariant.0 c.loop-need.invariant.1 in (
      least_trans sizes raised c.lift.new.sizes c.loop-need.invariant.0 c.lift.ensures.above,
      c.lift.ensures.under,
      λ t over under good.
          omega (
            arith,
            c.saturating_add-need.ensures,
            charged n a b caps sizes raised c.lift.new.sizes _ cycle slow.length slow.tokens c.lacking.result c.loop-need.need ready c.loop-need.invariant.0
                (omega (arith, found.0.short, n.some.1, c.slow_cycle_with_tokens.auto.cycle)) found.0 found.1 c.lacking.ensures c.lift.ensures.above c.lift.ensures.full c.loop-need.invariant.2 t over under good,
          ),
    )
