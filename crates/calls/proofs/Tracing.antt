-- Where a channel's items come from in a checked netlist. Assumes nothing.
use Rattle.std.proofs.Common.{◌≡◌, ℕ, zero, suc, ◌-◌, ◌<◌, ◌≤◌, true, false, cond, eqb, ◌≢◌, List, sym, refl, ap, ◌∙◌, subst, inl, inr, arith}
use Rattle.std.specs.Int.{IsInRange}
use Rattle.std.proofs.lemmas.Bool.{cases_eq, eq-eqb, eqb-true, ne_eqb}
use Rattle.netlist.specs.declared.channel.Channel.{Channel}
use Rattle.netlist.specs.declared.kind.Kind.{Kind}
use Rattle.netlist.specs.declared.kind.Kind.TheVariants.{Block, RelayStation}
use Rattle.netlist.specs.declared.netlist.Netlist.{Netlist}
use Rattle.netlist.specs.Holds.{channel, channels, channels_of, kind_of, modules}
use Rattle.checking.specs.Nets.{Origin}
use Rattle.checking.specs.Verdicts.{Passed}
use Rattle.checking.proofs.Passes.{both_kinds, one_counted, same_counted}
use Rattle.checking.proofs.Held.{source_in}
use Rattle.counts.specs.Nets.{Net, is_block, net_of}
use Rattle.counts.specs.Origins.{feeder, origin, origin_by, Lawful}
use Rattle.calls.specs.Laws.{OriginsAreMet}

-- the only channel to v is the last one
feeder_is : (net : Net) (v d n : ℕ) → net.sink d ≡ v → d < n → ((e : ℕ) → e < n → net.sink e ≡ v → e ≡ d) → feeder net v n ≡ d
unfolding feeder
feeder_is net v d zero q lt alone = absurd (omega arith)
feeder_is net v d (suc n) q lt alone = elim (cases_eq (net.sink n) v) [
  | inl here ↦ ap (λ b. cond b n (feeder net v n)) (eq-eqb (net.sink n) v here) ∙ alone n (omega arith) here
  | inr ne ↦
      let apart : d ≢ n = λ e. ne (ap net.sink (sym e) ∙ q) in
      ap (λ b. cond b n (feeder net v n)) (ne_eqb (net.sink n) v ne) ∙ feeder_is net v d n q (omega arith) (λ e l h. alone e (omega arith) h)
]

origin_block : (net : Net) (k e : ℕ) → net.block (net.source e) ≡ true → origin_by net k e ≡ net.source e
unfolding origin_by
origin_block net zero e q = refl
origin_block net (suc k) e q = ap (λ b. cond b (net.source e) (origin_by net k (feeder net (net.source e) net.channels))) q

origin_relay : (net : Net) (k e d : ℕ) → net.block (net.source e) ≡ false → feeder net (net.source e) net.channels ≡ d → origin_by net (suc k) e ≡ origin_by net k d
unfolding origin_by
origin_relay net k e d q f = ap (λ b. cond b (net.source e) (origin_by net k (feeder net (net.source e) net.channels))) q ∙ ap (origin_by net k) f

origin_opened : (net : Net) (e : ℕ) → origin net e ≡ origin_by net net.modules e
unfolding origin
origin_opened net e = refl

relay_is : (k : Kind) → is_block k ≡ false → k ≡ RelayStation
relay_is Block q = absurd (let z : ◌≡◌ {A = ℕ} 0 1 = cc in omega arith)
relay_is RelayStation q = refl

block_is : (k : Kind) → is_block k ≡ true → k ≡ Block
block_is Block q = refl
block_is RelayStation q = absurd (let z : ◌≡◌ {A = ℕ} 0 1 = cc in omega arith)

module _ (n : Netlist) (sizing : List ℕ) (passed : Passed n) where
  abbrev net : Net
  net = net_of n sizing

  relay_input : (v : ℕ) → 1 ≤ v → v ≤ modules n → is_block (kind_of n v) ≡ false
      → (d : ℕ) × (d < channels n) × (net.sink d ≡ v) × ((e : ℕ) → e < channels n → net.sink e ≡ v → e ≡ d)
  relay_input v low high rel =
      let one = (passed.relays v (low, high) (relay_is (kind_of n v) rel)).0 in
      let none : Channel = record { source = 0; sink = 0 } in
      let d = one_counted (λ c. eqb c.sink v) (channels_of n) none (omega (arith, one)) in (
        d.0,
        omega (arith, d.1, n.channels.ok.0),
        eqb-true (net.sink d.0) v d.2,
        λ e lt q. same_counted (λ c. eqb c.sink v) (channels_of n) none e d.0 one (omega (arith, lt, n.channels.ok.0)) d.1 (eq-eqb (net.sink e) v q) d.2,
      )

  feeder_of : (v d : ℕ) → 1 ≤ v → v ≤ modules n → is_block (kind_of n v) ≡ false → d < channels n → net.sink d ≡ v → feeder net v (channels n) ≡ d
  feeder_of v d low high rel lt q =
      let one = relay_input v low high rel in
      feeder_is net v one.0 (channels n) one.2 one.1 one.3 ∙ sym (one.3 d lt q)

  -- with relay stations enough
  origin_is : (k m e b : ℕ) → IsInRange 1 (channels n) e → k ≤ m → Origin n e k b → origin_by net m (e - 1) ≡ b
  origin_is zero m e b h le o = origin_block net m (e - 1) (ap (λ v. is_block (kind_of n v)) o.0 ∙ ap is_block o.1) ∙ o.0
  origin_is (suc k) zero e b h le o = absurd (omega arith)
  origin_is (suc k) (suc m) e b h le o =
      let d = o.1 in
      let at = source_in n e h in
      origin_relay net m (e - 1) (d.0 - 1) (ap is_block o.0) (feeder_of (channel n e).source (d.0 - 1) at.0 at.1 (ap is_block o.0) (omega (arith, d.1.0, d.1.1)) d.2)
      ∙ origin_is k m d.0 b d.1 (omega arith) d.3

  pub met : (e : ℕ) → IsInRange 1 (channels n) e → (k : ℕ) × Origin n e k (origin net (e - 1))
  met e h =
      let o = passed.origins e h in
      let same : origin net (e - 1) ≡ o.1 = origin_opened net (e - 1) ∙ origin_is o.0 (modules n) e o.1 h o.2 o.4 in
      (o.0, subst (λ (b : ℕ). Origin n e o.0 b) (sym same) o.4)

  -- the source and the sink of the channel at place e
  source_at : (e : ℕ) → e < channels n → IsInRange 1 (modules n) (net.source e)
  source_at e lt = n.sources e (record { source = 0; sink = 0 }) (omega (arith, lt, n.channels.ok.0))

  sink_at : (e : ℕ) → e < channels n → IsInRange 1 (modules n) (net.sink e)
  sink_at e lt = n.sinks e (record { source = 0; sink = 0 }) (omega (arith, lt, n.channels.ok.0))

  -- behind a relay station lies the origin of its input
  behind : (k b i d : ℕ) → d < channels n → IsInRange 1 (channels n) i → k ≤ modules n → is_block (kind_of n (net.source (i - 1))) ≡ false → net.sink d ≡ net.source (i - 1) → Origin n i k b
      → origin net (i - 1) ≡ origin net d
  behind zero b i d ld h few rel q o = absurd (both_kinds (kind_of n (net.source (i - 1))) (ap (kind_of n) o.0 ∙ o.1) (relay_is (kind_of n (net.source (i - 1))) rel))
  behind (suc k) b i d ld h few rel q o =
      let c = o.1 in
      let at = source_in n i h in
      let v = net.source (i - 1) in
      let same : c.0 - 1 ≡ d = sym (feeder_of v (c.0 - 1) at.0 at.1 rel (omega (arith, c.1.0, c.1.1)) c.2) ∙ feeder_of v d at.0 at.1 rel ld q in
      origin_opened net (i - 1) ∙ origin_is (suc k) (modules n) i b h few o
      ∙ sym (origin_is k (modules n) c.0 b c.1 (omega arith) c.3) ∙ ap (origin_by net (modules n)) same ∙ sym (origin_opened net d)

  pub lawful : Lawful net
  lawful = record {
    source_low = λ e lt. (source_at e lt).0;
    source_high = λ e lt. (source_at e lt).1;
    sink_low = λ e lt. (sink_at e lt).0;
    sink_high = λ e lt. (sink_at e lt).1;
    relay_input = relay_input;
    from_block = λ e lt q. origin_opened net e ∙ origin_block net (modules n) e q;
    from_relay = λ d e ld le rel q.
        let h : IsInRange 1 (channels n) (suc e) = (omega arith, omega arith) in
        let o = passed.origins (suc e) h in
        let back : suc e - 1 ≡ e = omega arith in
        subst (λ (x : ℕ). origin net x ≡ origin net d) back
        (behind o.0 o.1 (suc e) d ld h o.2 (subst (λ (x : ℕ). is_block (kind_of n (net.source x)) ≡ false) (sym back) rel)
        (subst (λ (x : ℕ). net.sink d ≡ net.source x) (sym back) q) o.4);
  }

pub origins_are_met : OriginsAreMet
origins_are_met n sizing passed e h = met n sizing passed e h
