-- From the rounds to the firings of the netlist. Assumes nothing.
use Rattle.std.proofs.Common.{◌≡◌, ℕ, ◌-◌, ◌<◌, ◌≤◌, List, length, get_or, take, replicate, None, sym, ap, ◌∙◌, arith}
use lib.ListN.{get_or-replicate}
use Rattle.std.proofs.lemmas.List.{get_or-take, length-replicate, length-take-le}
use Rattle.counts.proofs.Bridges.{freely_alike}
use Rattle.firing.specs.Firings.{firings, free}
use Rattle.marked.specs.declared.place.Place.{Place}
use Rattle.marked.specs.Limits.{Starts}
use Rattle.netlist.specs.declared.netlist.Netlist.{Netlist}
use Rattle.netlist.specs.Holds.{channels, modules}
use Rattle.rating.specs.Extended.{graph_of}
use Rattle.rating.specs.Sizings.{sizing_fault}
use Rattle.scale.specs.Counts.{element}
use Rattle.scale.specs.LeastTotal.{least_total}
use Rattle.scale.specs.Rounds.{AllWalks}
use Rattle.scale.specs.declared.elements.Total.{Total}
use Rattle.forecasting.specs.Forecasts.{Foretold}
use Rattle.forecasting.specs.Weights.{Fired, Unfired, Weights}
use Rattle.forecasting.proofs.Recurrence.{rounds_fire}

-- the totals of so many modules at first
pub front_long : (x : Total) (n : ℕ) → n ≤ 64 → length (take n (replicate 64 x)) ≡ n
front_long x n few = length-take-le n (replicate 64 x) (omega (arith, length-replicate 64 x))

pub front_unfired : (x : Total) (n : ℕ) → x.sum ≡ 0 → n ≤ 64 → Unfired (take n (replicate 64 x))
front_unfired x n zero few v l =
    let v_in : v < n = omega (arith, front_long x n few) in
    ap (λ (t : Total). t.sum) (get_or-take n (replicate 64 x) v least_total.no_way v_in ∙ get_or-replicate 64 v x least_total.no_way (omega arith)) ∙ zero

pub all_fired : (G : List Place) (es ws out : List Total) (k : ℕ) → Starts (length es) G → Unfired es → Weights G (length es) ws → k ≤ 1000000
    → length out ≡ length es → AllWalks least_total es ws k out → Fired G k out
all_fired G es ws out k starts unfired weights few same all v l =
    let v_in : v < length es = omega (arith, same) in
    ap (λ (t : Total). t.sum) (all v v_in) ∙ rounds_fire G es ws starts unfired weights k v (omega arith) v_in

pub foretold : (n : Netlist) (qs : List ℕ) (t : ℕ) (G : List Place) (es : List Total) (before after : List ℕ)
    → sizing_fault (channels n) qs ≡ None → G ≡ graph_of n qs → length es ≡ modules n → Fired G t es
    → ((v : ℕ) → v < length es → get_or after v 0 ≡ (element least_total es v).sum)
    → ((v : ℕ) → length es ≤ v → get_or after v 0 ≡ get_or before v 0) → Foretold n qs t before after
foretold n qs t G es before after sized is same fired front behind = record {
  counts = λ v v_in.
      let at : v - 1 < length es = omega (arith, v_in.0, v_in.1, same) in
      front (v - 1) at ∙ fired (v - 1) at ∙ ap (λ (H : List Place). firings H (replicate t free) (v - 1)) is ∙ sym (freely_alike n qs sized t v v_in);
  kept = λ i l. behind i (omega (arith, same));
}
