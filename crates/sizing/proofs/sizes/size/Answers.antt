use Rattle.std.proofs.Common.{◌≡◌, length, sym, ap, ◌∙◌, MatchOption}
use Rattle.netlist.specs.declared.netlist.Netlist.{Netlist}
use Rattle.netlist.specs.Holds.{channels}
use Rattle.sizing.specs.Candidates.{Fewest, Unreached}
use Rattle.sizing.proofs.Accepting.{answered, of_checked, request_few, request_low, request_ready}
use Rattle.sizing.proofs.sizes.size.Goals as goal

pub invariant_of-aim : goal.invariant_of-aim
invariant_of-aim c =
    record { low = request_low (length c.channels-channels.result.now) c.args.target.0 c.args.target.1 c.args.caps.now c.args.allowance c.args.sizing.now c.in_ok-target.ensures.0 }

pub fewest-requires : goal.fewest-requires
fewest-requires c =
    let n = c.netlist-netlist.result.now in
    let e = length c.channels-channels.result.now in
    let a = c.args.target.0 in
    let b = c.args.target.1 in
    let caps = c.args.caps.now in
    let m = c.args.allowance in
    let sizing = c.args.sizing.now in
    let fault = c.in_ok-target.ensures.0 in
    let same : e ≡ channels n = ap length c.channels-channels.ensures ∙ sym n.channels.ok.0 in
    record {
      ready = request_ready e a b caps m sizing fault n same;
      few = request_few e a b caps m sizing fault;
    }

pub returns : goal.returns
returns c =
    let n = c.netlist-netlist.result.now in
    let a = c.args.target.0 in
    let b = c.args.target.1 in
    let caps = c.args.caps.now in
    let m = c.args.allowance in
    let sizing = c.args.sizing.now in
    let sizing' = c.fewest.new.sizing in
    let found = c.fewest.result in
    rw (c.ok_or.ensures.value, c.into.ensures)
    (answered c.args.checked.netlist.now a b caps m sizing sizing' found
    (of_checked (length c.channels-channels.result.now) a b caps m sizing c.in_ok-target.ensures.0 n _ c.netlist-netlist.ensures
    (ap length c.channels-channels.ensures ∙ sym n.channels.ok.0)
    (λ (x : Netlist). MatchOption found ((sizing' ≡ sizing) × Unreached x a b caps m sizing) (λ k. Fewest x a b caps m sizing k sizing')) (rw (c.in_ok-target.ensures.1, c.in_ok-target.ensures.2) at c.fewest.ensures)))
