use Rattle.std.proofs.Common.{◌<◌, length, refl, rules}
use Rattle.queues.proofs.Replacing.{sounds_set, apart_set, kept_lent, flows_take}
use Rattle.queues.proofs.channels.Channels.take.Goals as goal

pub invariant_of-self : goal.invariant_of-self
invariant_of-self g c =
    let w = c.args.self.now in
    let e = c.args.e in
    let x = c.pop.new.self in
    let inside : e < length w.queues = search rules in
    let told = c.pop.ensures in
    record {
      count_high = w.count_high;
      sounds = sounds_set w.queues e x inside w.count w.entries (length c.args.table.now) told.alike told.sound w.sounds;
      apart = apart_set w.queues e x inside w.count told.alike w.apart;
    }

pub returns : goal.returns
returns g c =
    let w = c.args.self.now in
    let e = c.args.e in
    let x = c.pop.new.self in
    let inside : e < length w.queues = search rules in
    let told = c.pop.ensures in
    record {
      kept = kept_lent w _ e x inside told.alike refl refl refl;
      flow = λ ok before took put stream fl less.
          let flowed = told.flow ok before (took e) (put e) (stream e) (fl.each e c.requires.within) less in
          (flowed.0, flows_take w _ e x inside told.alike refl refl refl c.args.table.now ok before took put stream fl flowed.1);
    }
