use Rattle.std.proofs.Common.{vec_items, refl, ap, ◌∙◌}
use Rattle.netlist.specs.declared.netlist.Netlist.{Netlist}
use Rattle.run.proofs.Laying.{lists_fit}
use Rattle.run.proofs.New.{told_new}
use Rattle.run.proofs.run.Run.new.Goals as goal

pub lay-channels-requires : goal.lay-channels-requires
lay-channels-requires g c =
    let lends = c.channels.ensures ∙ ap (λ (m : Netlist). vec_items m.channels) c.netlist-netlist.ensures in
    let fits = lists_fit c.args.rating.netlist.now c.sizing.result.now c.args.rating.sizing.now c.channels.result.now lends c.sizing.ensures c.requires.sized in
    record { few = fits.0; same = fits.1; small = fits.2 }

pub returns : goal.returns
returns g c = λ table.
    let m = g.C.CoreSet in
    let n = c.args.rating.netlist.now in
    let qs = c.sizing.result.now in
    let cs = c.channels.result.now in
    let lends = c.channels.ensures ∙ ap (λ (x : Netlist). vec_items x.channels) c.netlist-netlist.ensures in
    let fits = lists_fit n qs c.args.rating.sizing.now cs lends c.sizing.ensures c.requires.sized in
    let made = c.lay-channels.ensures in
    told_new n c.netlist-netlist.result.now qs c.args.rating.sizing.now cs c.modules.result.now (m.rules c.args.cores) (m.held c.args.cores) _ table
    c.requires.passed c.netlist-netlist.ensures c.sizing.ensures lends c.modules.ensures fits.1 made.count made.laid refl c.blocks_of.ensures refl refl refl
