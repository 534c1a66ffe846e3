use Rattle.std.proofs.Common.{◌≡◌, ℕ, ◌<◌, true, false, sym, ap, ◌∙◌, subst}
use Rattle.counts.specs.Origins.{puts}
use Rattle.queues.specs.Flows.{Flows, Opens, Sole, more, into, from}
use Rattle.queues.specs.Stands.{items}
use Rattle.queues.proofs.Replacing.{kept_trans}
use Rattle.queues.proofs.Strictly.{block_fires, relay_fires, feeds_enabled}
use Rattle.queues.proofs.fires.fire.Goals as goal

pub returns-then-block : goal.returns-then-block
returns-then-block g c =
    let m = g.C.CoreSet in
    let w₀ = c.args.channels.now in
    let w₁ = c.gather.new.channels in
    let w₂ = c.scatter.new.self in
    let k₀ = c.args.cores.now in
    let k₁ = c.gather.new.cores in
    let k₂ = c.emit-item.new.self in
    let v = c.args.v.value in
    let t₂ = c.scatter.new.table in
    let kept = kept_trans w₂ w₁ w₀ c.scatter.ensures.kept c.gather.ensures.kept in
    record {
      kept = kept;
      told = λ ok before chip f st blk en.
          let took = λ (e : ℕ). f (chip.net.sink e) in
          let is_block : chip.net.block v ≡ true = sym blk ∙ c.if-block.true in
          let got = c.gather.ensures.flow ok before took (puts chip.net f) (items chip) st.flows (feeds_enabled chip.net f w₀ st.matches v en) in
          block_fires ok before chip f w₀ (m.rules k₀) (m.held k₀) c.args.table.now st v en is_block w₁ w₂ (m.rules k₂) (m.held k₁) (m.held k₂) c.emit-item.result t₂
          c.gather.ensures.kept kept (c.emit-item.ensures.kept ∙ c.gather.ensures.rules) got.1
          (c.emit-item.ensures.item ∙ ap (λ q. q.item v (m.held k₁ v)) c.gather.ensures.rules)
          (c.emit-item.ensures.own ∙ ap (λ q. q.next v (m.held k₁ v)) c.gather.ensures.rules)
          (λ u low ne. c.emit-item.ensures.others u low ne ∙ c.gather.ensures.others u low ne)
          (λ op. let P : ℕ → Type 0 = λ x. Opens ok w₁ x c.emit-item.result (more took (into w₀ v)) (puts chip.net f) (items chip) → Flows ok before w₂ t₂ (more took (into w₀ v)) (more (puts chip.net f) (from w₁ x)) (items chip) in
          subst P c.get.ensures (c.scatter.ensures.flow ok before (more took (into w₀ v)) (puts chip.net f) (items chip) got.0) op);
    }

pub returns-else-block : goal.returns-else-block
returns-else-block g c =
    let m = g.C.CoreSet in
    let w₀ = c.args.channels.now in
    let w₂ = c.relay.new.self in
    let k₀ = c.args.cores.now in
    let v = c.args.v.value in
    let t₂ = c.relay.new.table in
    record {
      kept = c.relay.ensures.kept;
      told = λ ok before chip f st blk en.
          let took = λ (e : ℕ). f (chip.net.sink e) in
          let is_relay : chip.net.block v ≡ false = sym blk ∙ c.if-block.false in
          relay_fires ok before chip f w₀ (m.rules k₀) (m.held k₀) c.args.table.now st v en is_relay w₂ t₂ c.relay.ensures.kept
          (λ d sole less op.
          let P : ℕ → Type 0 = λ x. Sole w₀ x d → took d < puts chip.net f d → Opens ok w₀ x (items chip d (took d)) took (puts chip.net f) (items chip) → Flows ok before w₂ t₂ (more took (into w₀ x)) (more (puts chip.net f) (from w₀ x)) (items chip) in
          subst P c.get-else-block.ensures (c.relay.ensures.flow ok before took (puts chip.net f) (items chip) d st.flows) sole less op);
    }
