use Rattle.checking.proofs.Passes.{passed_of}
use Rattle.play.proofs.Trying.{accepted, candidate_ready, finds, rated_ok, rates, refuses}
use Rattle.play.proofs.trials.trial.Goals as goal

pub returns-in-Err : goal.returns-in-Err
returns-in-Err g c =
    refuses c.args.checked.netlist.now c.args.target.0 c.args.target.1 c.args.caps.now c.args.allowance c.args.sizing.now c.size.new.sizing c.in-Err.why c.args.cores c.args.exchanges.now c.args.table.now (passed_of c.args.checked.netlist.now c.args.checked.faultless) c.in-Err.ensures

pub unwrap-rating-requires : goal.unwrap-rating-requires
unwrap-rating-requires g c =
    let n = c.args.checked.netlist.now in
    let sized = c.in-Ok.ensures in
    let ready = candidate_ready n c.args.target.0 c.args.target.1 c.args.caps.now c.args.allowance c.args.sizing.now (passed_of c.args.checked.netlist.now c.args.checked.faultless) sized.0 c.size.new.sizing sized.1.candidate in
    rated_ok n c.size.new.sizing _ _ _ _ c.rate.result c.rate.ensures (rates n c.size.new.sizing ready.sized)

pub returns : goal.returns
returns g c =
    let m = g.C.CoreSet in
    let n = c.args.checked.netlist.now in
    let found = c.size.new.sizing in
    let sized = c.in-Ok.ensures in
    let rated = accepted n found _ _ _ _ c.rate.result c.unwrap-rating.result c.unwrap-rating.ensures c.rate.ensures in
    finds m.rules m.held n c.args.target.0 c.args.target.1 c.args.caps.now c.args.allowance c.args.sizing.now found c.in-Ok.added
    c.args.cores c.play.result c.args.exchanges.now c.play.new.exchanges c.args.table.now c.play.new.table c.unwrap-rating.result
    (passed_of c.args.checked.netlist.now c.args.checked.faultless) sized.0 sized.1 rated.netlist rated.sizes rated.holds c.play.ensures
