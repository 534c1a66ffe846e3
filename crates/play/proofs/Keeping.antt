-- From what the run says of its records to what is promised of it. Assumes nothing.
use Rattle.std.proofs.Common.{◌≡◌, ℕ, ◌+◌, ◌-◌, ◌%◌, ◌<◌, true, List, length, get_or, sym, refl, ap, ◌∙◌, subst, ap₂, arith}
use Rattle.std.specs.Int.{IsInRange}
use Rattle.cores.specs.Rules.{Rules}
use Rattle.netlist.specs.declared.netlist.Netlist.{Netlist}
use Rattle.netlist.specs.Holds.{channels}
use Rattle.rating.specs.declared.rating.Rating.{Rating}
use Rattle.rating.specs.Ratings.{HoldsRate}
use Rattle.counts.specs.Nets.{net_of}
use Rattle.counts.specs.Origins.{base}
use Rattle.calls.specs.Calls.{Call, Count, counted, put}
use Rattle.calls.proofs.Bounds as bounds
use Rattle.queues.specs.declared.channels.Channels.{Channels}
use Rattle.queues.specs.Flows.{queue_at}
use Rattle.queues.specs.Stands.{items}
use Rattle.queues.proofs.Tables.{behind_all, waiting}
use Rattle.run.specs.declared.run.Run.{Run}
use Rattle.run.specs.Making.{chip_of}
use Rattle.run.specs.Tells.{Tells}
use Rattle.play.specs.Kept.{Kept}

module _ {C Item State : Type 0} (rules : C → Rules Item State) (held : C → ℕ → State) (r : Rating) (h : HoldsRate r) (cores : C) (calls : List Call) (before table : List Item) (run : Run C)
    (td : Tells true rules held (chip_of r.netlist.now r.sizing.now (rules cores) (held cores)) (counted (net_of r.netlist.now r.sizing.now) calls) before run table)
    (long : length table ≡ length before) where
  abbrev n : Netlist
  n = r.netlist.now

  abbrev sizing : List ℕ
  sizing = r.sizing.now

  abbrev c : Count
  c = counted (net_of n sizing) calls

  abbrev w : Channels
  w = run.inner.channels

  inside : (e : ℕ) → IsInRange 1 (channels n) e → e - 1 < w.count
  inside e in_it = subst (λ (k : ℕ). e - 1 < k) td.stands.matches.channels (omega (arith, in_it.0, in_it.1))

  -- the place of an item in the table, by the netlist and by the records
  at : (e : ℕ) → IsInRange 1 (channels n) e → (k : ℕ) → base (net_of n sizing).size (e - 1) + k % ((net_of n sizing).size (e - 1) + 1) ≡ (queue_at w (e - 1)).base + k % ((queue_at w (e - 1)).size + 1)
  at e in_it k = ap₂ (λ b s. b + k % (s + 1)) (td.stands.matches.base_is (e - 1) (omega (arith, in_it.0, in_it.1))) (td.stands.matches.size (e - 1))

  pub kept : Kept n sizing r.rate.0 r.rate.1 (rules cores) (held cores) calls (held run.cores) before table
  kept = record {
    waiting = λ e in_it k less d.
        let hd = td.stands.flows.each (e - 1) (inside e in_it) in
        let took = c.firings ((net_of n sizing).sink (e - 1)) in
        ap (λ (i : ℕ). get_or table i d) (at e in_it (took + k))
        ∙ waiting (queue_at w (e - 1)) table true before took (put (net_of n sizing) c (e - 1)) (items (chip_of n sizing (rules cores) (held cores)) (e - 1)) hd refl (run.inner.channels.sounds (e - 1) (inside e in_it)).1 k d (omega (arith, hd.count, less));
    room = λ e in_it. let hd = td.stands.flows.each (e - 1) (inside e in_it) in omega (arith, hd.count, (run.inner.channels.sounds (e - 1) (inside e in_it)).1, td.stands.matches.size (e - 1));
    latest = λ e in_it k less near d.
        let hd = td.stands.flows.each (e - 1) (inside e in_it) in
        ap (λ (i : ℕ). get_or table i d) (at e in_it k) ∙ hd.items refl k d less (omega (arith, near, td.stands.matches.size (e - 1)));
    untouched = λ e in_it j le none d.
        let hd = td.stands.flows.each (e - 1) (inside e in_it) in
        let here : base (net_of n sizing).size (e - 1) + j ≡ (queue_at w (e - 1)).base + j = ap (λ b. b + j) (td.stands.matches.base_is (e - 1) (omega (arith, in_it.0, in_it.1))) in
        ap (λ (i : ℕ). get_or table i d) here ∙ hd.rest refl j d (omega (arith, le, td.stands.matches.size (e - 1))) none ∙ ap (λ (i : ℕ). get_or before i d) (sym here);
    behind = λ k le d. behind_all (net_of n sizing) w table true before (λ e. c.firings ((net_of n sizing).sink e)) (put (net_of n sizing) c) (items (chip_of n sizing (rules cores) (held cores))) td.stands.matches td.stands.flows refl k d le;
    same_length = long;
    cores = td.stands.states refl;
    others = td.stands.rest;
    no_setback = bounds.no_setback n sizing h.sized calls;
    not_behind = bounds.not_behind n sizing h.sized calls;
    lower = λ v m. (bounds.keeps_its_rate r h calls v m).0;
    upper = λ v m. (bounds.keeps_its_rate r h calls v m).1;
  }
