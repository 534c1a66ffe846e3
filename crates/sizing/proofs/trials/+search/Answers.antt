use Rattle.std.proofs.Common.{rules, ◌≡◌, ◌<◌, length, refl, ap, ◌∙◌, subst, arith, below_more}
use Rattle.std.proofs.Math.ListN.{length-set}
use Rattle.sizing.specs.Candidates.{Reaching}
use Rattle.sizing.proofs.Deeper.{lent_covers}
use Rattle.sizing.proofs.Readying.{ready_raised}
use Rattle.sizing.proofs.Tables.{NoneAt, front_copied, now_back, now_capped, now_reached, now_tried, own_candidate}
use Rattle.sizing.proofs.Trying.{none_along, none_without}
use Rattle.sizing.proofs.trials.+search.Goals as goal
use Rattle.sizing.proofs.trials.+search.Goals.{in-Some-channel_with_room+in_default-search, in_default-channel_with_room}

pub returns-in_default : goal.returns-in_default
returns-in_default t c =
    let aim = c.args.aim in
    let reaches = rw (c.new-chip.ensures.netlist, c.new-chip.ensures.sizing) at c.in_default.ensures in
    record { kept = refl; verdict = own_candidate (Reaching aim.netlist.now aim.target.a aim.target.b) _ _ _ _ (front_copied _ _ _ c.copy_from_slice.ensures.after) c.requires.ready.under reaches }

pub returns-then-slots-eq0 : goal.returns-then-slots-eq0
returns-then-slots-eq0 t c =
    let covers = lent_covers c.new-chip.ensures.netlist c.new-chip.ensures.sizing c.requires.ready c.in-Some.ensures in
    record { kept = refl; verdict = none_without _ _ _ _ _ _ _ covers c.if-slots-eq0.true }

pub channel_with_room-requires : goal.channel_with_room-requires
channel_with_room-requires t c =
    let covers = lent_covers c.new-chip.ensures.netlist c.new-chip.ensures.sizing c.requires.ready c.in-Some.ensures in
    record {
      within = omega (arith, covers.places c.loop-place.place-index c.loop-place-test.true, c.loop-place.auto.sizes);
      capped = omega (arith, c.requires.ready.under.lengths, c.loop-place.auto.sizes);
    }

pub new-guard-requires : goal.new-guard-requires
new-guard-requires t c =
    let covers = lent_covers c.new-chip.ensures.netlist c.new-chip.ensures.sizing c.requires.ready c.in-Some.ensures in
    let room = c.in-Some-channel_with_room.ensures in
    record {
      within = omega (arith, covers.places c.loop-place.place-index c.loop-place-test.true, c.loop-place.auto.sizes, room.0);
      fits = omega (arith, room.1, c.args.aim.low c.in-Some-channel_with_room.channel);
    }

pub search-requires : goal.search-requires
search-requires t c =
    let covers = lent_covers c.new-chip.ensures.netlist c.new-chip.ensures.sizing c.requires.ready c.in-Some.ensures in
    let room = c.in-Some-channel_with_room.ensures in
    let h : c.in-Some-channel_with_room.channel < length c.loop-place.sizes =
    omega (arith, covers.places c.loop-place.place-index c.loop-place-test.true, c.loop-place.auto.sizes, room.0) in (
      omega (arith, c.decreases, c.if-slots-eq0.false),
      (
        ready_raised _ _ _ _ _ _ c.args.aim.low c.requires.ready c.loop-place.invariant.0 c.new-guard.ensures.after h room.1,
        omega (arith, c.requires.few),
      ),
    )

pub drop-guard-requires : goal.drop-guard-requires
drop-guard-requires t c =
    let covers = lent_covers c.new-chip.ensures.netlist c.new-chip.ensures.sizing c.requires.ready c.in-Some.ensures in
    omega (arith, covers.places c.loop-place.place-index c.loop-place-test.true, c.loop-place.auto.sizes, simp length-set at (ap length c.new-guard.ensures.after), c.new-guard.ensures.at, c.in-Some-channel_with_room.ensures.0, ap length c.in-Some-search.ensures.kept)

pub drop-guard-requires-in-Some-channel_with_room : goal.drop-guard-requires-in-Some-channel_with_room
drop-guard-requires-in-Some-channel_with_room t c =
    let covers = lent_covers c.new-chip.ensures.netlist c.new-chip.ensures.sizing c.requires.ready c.in-Some.ensures in
    omega (arith, covers.places c.loop-place.place-index c.loop-place-test.true, c.loop-place.auto.sizes, simp length-set at (ap length c.new-guard.ensures.after), c.new-guard.ensures.at, c.in-Some-channel_with_room.ensures.0, ap length c.in_default-search.ensures.kept)

pub returns-in-Some-search : goal.returns-in-Some-search
returns-in-Some-search t c =
    let covers = lent_covers c.new-chip.ensures.netlist c.new-chip.ensures.sizing c.requires.ready c.in-Some.ensures in
    let h : c.in-Some-channel_with_room.channel < length c.loop-place.sizes =
    omega (arith, covers.places c.loop-place.place-index c.loop-place-test.true, c.loop-place.auto.sizes, c.in-Some-channel_with_room.ensures.0) in
    let back : c.drop-guard.new.self.0 ≡ c.args.sizes.now = now_back _ _ _ c.args.aim.caps.now c.args.slots _ c.loop-place.invariant.0 c.new-guard.ensures.after _ _ _ c.new-guard.ensures.old c.in-Some-search.ensures.kept (rw c.new-guard.ensures.at at c.drop-guard.ensures) in
    let same : length c.new-guard.result.sizes.now ≡ length c.args.sizes.now = omega (arith, simp length-set at (ap length c.new-guard.ensures.after), ap length c.loop-place.invariant.0) in
    let told = rw same at c.in-Some-search.ensures.verdict in
    record {
      kept = search (rules, back);
      verdict = (
        told.0,
        now_reached _ _ _ _ _ _ c.loop-place.invariant.0 c.new-guard.ensures.after _ h (omega (arith, c.if-slots-eq0.false)) told.1,
      );
    }

pub loop-place-preserved : goal.loop-place-preserved
loop-place-preserved t c =
    let covers = lent_covers c.new-chip.ensures.netlist c.new-chip.ensures.sizing c.requires.ready c.in-Some.ensures in
    let place = covers.places c.loop-place.place-index c.loop-place-test.true in
    let aim = c.args.aim in
    let Good = Reaching aim.netlist.now aim.target.a aim.target.b in
    elim c.match-channel_with_room.branch [
      | in-Some-channel_with_room+in_default-search w ↦
          let room = w.in-Some-channel_with_room.ensures in
          let h : w.in-Some-channel_with_room.channel < length c.loop-place.sizes = omega (arith, place, c.loop-place.auto.sizes, room.0) in
          let back : w.drop-guard-in-Some-channel_with_room.new.self.0 ≡ c.args.sizes.now =
          now_back _ _ _ aim.caps.now c.args.slots _ c.loop-place.invariant.0 w.new-guard.ensures.after _ _ _ w.new-guard.ensures.old w.in_default-search.ensures.kept (rw w.new-guard.ensures.at at w.drop-guard-in-Some-channel_with_room.ensures) in
          let none = now_tried _ _ _ _ _ _ c.loop-place.invariant.0 w.new-guard.ensures.after Good h w.in_default-search.ensures.verdict in (
            w.sizes-is ∙ (search (rules, back)),
            below_more _ _ c.loop-place.invariant.1 (λ back. subst (NoneAt Good c.args.sizes.now aim.caps.now c.args.slots) room.0 none),
          )
      | in_default-channel_with_room w ↦ (
        w.sizes-is ∙ c.loop-place.invariant.0,
        below_more _ _ c.loop-place.invariant.1 (λ back. now_capped _ _ _ _ _ c.loop-place.invariant.0 Good (w.in_default-channel_with_room.ensures back)),
      )
    ]

pub returns : goal.returns
returns t c =
    let covers = lent_covers c.new-chip.ensures.netlist c.new-chip.ensures.sizing c.requires.ready c.in-Some.ensures in
    record {
      kept = c.loop-place.invariant.0;
      verdict = none_along _ _ _ _ _ _ _ covers (λ i l. c.loop-place.invariant.1 i (omega (arith, l, c.loop-place-test.false)));
    }
