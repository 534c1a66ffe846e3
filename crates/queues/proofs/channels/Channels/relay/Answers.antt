use Rattle.std.proofs.Common.{◌≡◌, ℕ, ◌<◌, Some, Option, sym, ap, ◌∙◌, subst}
use Rattle.queues.specs.Holds.{Gives}
use Rattle.queues.specs.Flows.{Flows, bump}
use Rattle.queues.proofs.Replacing.{kept_trans}
use Rattle.queues.proofs.Relay.{relay_flows}
use Rattle.queues.proofs.channels.Channels.relay.Goals as goal

pub returns-in-Some-take : goal.returns-in-Some-take
returns-in-Some-take g c =
    let w₀ = c.args.self.now in
    let w₁ = c.take.new.self in
    let w₂ = c.scatter.new.self in
    let kept = kept_trans w₂ w₁ w₀ c.scatter.ensures.kept c.take.ensures.kept in
    record {
      kept = kept;
      flow = λ ok before took put stream d fl sole less op.
          let at : c.in-Some.d ≡ d = sole.alone c.in-Some.d c.in-Some.ensures.0 c.in-Some.ensures.1 in
          let taken = c.take.ensures.flow ok before took put stream fl (subst (λ (i : ℕ). took i < put i) (sym at) less) in
          let is : Gives ok (Some c.in-Some-take.item) (stream c.in-Some.d (took c.in-Some.d)) = subst (λ (o : Option g.row.T.Denot). Gives ok o (stream c.in-Some.d (took c.in-Some.d))) c.in-Some-take.is taken.0 in
          relay_flows w₀ c.args.v d sole c.args.table.now w₁ w₂ c.scatter.new.table c.in-Some-take.item ok before took put stream c.take.ensures.kept kept
          (λ y. is y ∙ ap (λ i. stream i (took i)) at)
          (subst (λ (i : ℕ). Flows ok before w₁ c.args.table.now (bump took i) put stream) at taken.1)
          op
          (c.scatter.ensures.flow ok before (bump took d) put stream);
    }
