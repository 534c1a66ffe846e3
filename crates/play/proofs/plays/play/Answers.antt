use Rattle.std.proofs.Common.{List, length, sym, ap, ◌∙◌, subst}
use Rattle.calls.specs.Calls.{Call, at_first}
use Rattle.run.specs.Making.{chip_of}
use Rattle.play.specs.Answers.{calls_of}
use Rattle.play.specs.Kept.{Kept}
use Rattle.play.proofs.Keeping.{kept}
use Rattle.play.proofs.plays.play.Goals as goal

pub returns : goal.returns
returns g c =
    let m = g.C.CoreSet in
    let r = c.args.rating in
    let t = c.args.table.now in
    let set = c.args.cores in
    let chip = chip_of r.netlist.now r.sizing.now (m.rules set) (m.held set) in
    let calls : List Call = calls_of (length t) c.args.exchanges.now in
    let played = c.ask_all.ensures chip at_first t (c.new-run.ensures t) in
    let end_is = c.end.ensures in
    record {
      answers = played.0;
      same_rules = ap m.rules end_is ∙ played.1.stands.same_rules;
      kept = subst (λ (s : g.row.C.Denot). Kept r.netlist.now r.sizing.now r.rate.0 r.rate.1 (m.rules set) (m.held set) calls (m.held s) t c.ask_all.new.table) (sym end_is)
          (kept m.rules m.held r c.requires set calls t c.ask_all.new.table c.ask_all.new.run played.1 c.ask_all.auto.table);
    }
