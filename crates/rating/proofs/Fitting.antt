-- The extended graph keeps the limits of graphs.
use Rattle.std.proofs.Common.{◌≡◌, ℕ, ◌<◌, ◌≤◌, List, length, get_or, None, sym, subst₂, arith}
use Rattle.std.proofs.ByRecursion.{All-get_or}
use Rattle.std.specs.Int.{IsInRange}
use Rattle.marked.specs.declared.place.Place.{Place}
use Rattle.marked.specs.Limits.{Fit}
use Rattle.netlist.specs.declared.channel.Channel.{Channel}
use Rattle.netlist.specs.declared.kind.Kind.{Kind}
use Rattle.netlist.specs.declared.kind.Kind.TheVariants.{Block, RelayStation}
use Rattle.netlist.specs.declared.netlist.Netlist.{Netlist}
use Rattle.netlist.specs.Holds.{channels, channels_of, kind_of, modules}
use Rattle.rating.specs.Extended.{backward, forward, graph_of, reset_items}
use Rattle.rating.specs.Sizings.{sizing_fault}
use Rattle.rating.proofs.Places.{extended_all, length_extended}
use Rattle.rating.proofs.Sizes.{sizing_fits}

one_at_most : (k : Kind) → reset_items k ≤ 1
one_at_most Block = omega arith
one_at_most RelayStation = omega arith

-- both ends of a place lie in the graph, and it is not too full
abbrev Kept : ℕ → Place → Type 0
Kept n p = (p.from < n) × (p.to < n) × (p.tokens ≤ 17)

both_kept : (m : ℕ) (kind : ℕ → Kind) (c : Channel) (q : ℕ) → IsInRange 1 m c.source → IsInRange 1 m c.sink → IsInRange 1 16 q → Kept m (forward kind c) × Kept m (backward kind c q)
both_kept m kind c q s t h =
    let one = one_at_most (kind c.source) in
    ((omega arith, omega arith, omega arith), (omega arith, omega arith, omega arith))

fits : (n : Netlist) (qs : List ℕ) → sizing_fault (channels n) qs ≡ None → Fit (modules n) (graph_of n qs)
fits n qs h =
    let sized = sizing_fits (channels n) qs h in
    let same : length qs ≡ length (channels_of n) = omega (arith, sized.0, n.channels.ok.0) in
    let d : Channel = record { source = 0; sink = 0 } in
    let all = extended_all (Kept (modules n)) (kind_of n) (channels_of n) qs d (λ i l m. both_kept (modules n) (kind_of n) (get_or (channels_of n) i d) (get_or qs i 0) (n.sources i d l) (n.sinks i d l) (sized.1 i m)) in
    let one : (p : ℕ) → p < length (graph_of n qs) → Kept (modules n) (get_or (graph_of n qs) p (record { from = 0; to = 0; tokens = 0 })) =
    λ p l. All-get_or (Kept (modules n)) (graph_of n qs) p (record { from = 0; to = 0; tokens = 0 }) l all in
    record {
      some = n.some;
      few = omega (arith, length_extended (kind_of n) (channels_of n) qs same, n.few, n.channels.ok.0);
      starts = λ p l. (one p l).0;
      ends = λ p l. (one p l).1;
      light = λ p l. (one p l).2;
    }

pub fits_as : (n : Netlist) (qs : List ℕ) (m : ℕ) (G : List Place) → m ≡ modules n → G ≡ graph_of n qs → sizing_fault (channels n) qs ≡ None → Fit m G
fits_as n qs m G e g h = subst₂ Fit (sym e) (sym g) (fits n qs h)

pub few_places : (n : Netlist) (qs : List ℕ) → sizing_fault (channels n) qs ≡ None → length (graph_of n qs) ≤ 384
few_places n qs h = (fits n qs h).few
