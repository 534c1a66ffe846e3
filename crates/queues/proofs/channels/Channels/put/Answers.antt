use Rattle.std.proofs.Common.{◌<◌, length, refl, arith, rules}
use Rattle.queues.proofs.Replacing.{sounds_set, apart_set, kept_lent, flows_put}
use Rattle.queues.proofs.channels.Channels.put.Goals as goal

pub invariant_of-self : goal.invariant_of-self
invariant_of-self g c =
    let w = c.args.self.now in
    let e = c.args.e in
    let x = c.push.new.self in
    let inside : e < length w.queues = search rules in
    let told = c.push.ensures in
    record {
      count_high = w.count_high;
      sounds = sounds_set w.queues e x inside w.count w.entries (length c.push.new.table) told.alike told.sound w.sounds;
      apart = apart_set w.queues e x inside w.count told.alike w.apart;
    }

pub returns : goal.returns
returns g c =
    let w = c.args.self.now in
    let e = c.args.e in
    let x = c.push.new.self in
    let inside : e < length w.queues = search rules in
    let told = c.push.ensures in
    record {
      kept = kept_lent w _ e x inside told.alike refl refl refl;
      flow = λ ok before took put stream fl room is.
          let h = fl.each e c.requires.within in
          flows_put w _ e x inside told.alike refl refl refl c.args.table.now c.push.new.table ok before took put stream c.requires.within fl told.elsewhere
          (told.flow ok before (took e) (put e) (stream e) h (omega (arith, h.count)) is);
    }
