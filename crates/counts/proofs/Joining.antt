-- The extended graph of a checked netlist is in one piece. Assumes nothing.
use Rattle.std.proofs.Common.{◌≡◌, ℕ, zero, suc, ◌+◌, ◌-◌, ◌*◌, ◌<◌, ◌≤◌, List, [], ◌∷◌, length, get_or, None, sym, refl, ap, ◌∙◌, subst, subst₂, inl, inr, arith}
use Rattle.std.proofs.ByRecursion.{All-get_or}
use Rattle.checking.specs.Nets.{Joins, Way}
use Rattle.marked.specs.declared.place.Place.{Place}
use Rattle.marked.specs.Graphs.{Leads, at}
use Rattle.netlist.specs.declared.channel.Channel.{Channel}
use Rattle.netlist.specs.declared.kind.Kind.{Kind}
use Rattle.netlist.specs.declared.netlist.Netlist.{Netlist}
use Rattle.netlist.specs.Holds.{channels, channels_of, kind_of, modules}
use Rattle.rating.specs.Extended.{backward, extended, forward, graph_of}
use Rattle.rating.specs.Sizings.{sizing_fault}
use Rattle.rating.proofs.Fitting.{fits_as}
use Rattle.rating.proofs.Places.{extended_all, length_extended}
use Rattle.rating.proofs.Sizes.{sizing_fits}
use Rattle.counts.specs.Nets.{largest}
use Rattle.counts.specs.Laws.{InOnePiece, InOnePieceAtLargest}
use Rattle.counts.proofs.Bridges.{few_items, nowhere}

-- the two places of the channel at place i
pub places_at : (kind : ℕ → Kind) (cs : List Channel) (qs : List ℕ) (i : ℕ) → length qs ≡ length cs → i < length cs →
    (at (extended kind cs qs) (2 * i) ≡ forward kind (get_or cs i nowhere)) × (at (extended kind cs qs) (2 * i + 1) ≡ backward kind (get_or cs i nowhere) (get_or qs i 0))
places_at kind [] qs i same l = absurd (omega arith)
places_at kind (c ∷ cs) [] i same l = absurd (omega arith)
places_at kind (c ∷ cs) (q ∷ qs) zero same l = (refl, refl)
places_at kind (c ∷ cs) (q ∷ qs) (suc i) same l =
    let rest = places_at kind cs qs i (omega arith) (omega arith) in
    let there : 2 * suc i ≡ suc (suc (2 * i)) = omega arith in
    let back : 2 * suc i + 1 ≡ suc (suc (2 * i + 1)) = omega arith in
    (ap (at (extended kind (c ∷ cs) (q ∷ qs))) there ∙ rest.0, ap (at (extended kind (c ∷ cs) (q ∷ qs))) back ∙ rest.1)

module _ (n : Netlist) (sizing : List ℕ) (sized : sizing_fault (channels n) sizing ≡ None) where
  count : channels n ≡ length (channels_of n)
  count = omega (arith, n.channels.ok.0)

  sizes : length sizing ≡ length (channels_of n)
  sizes = omega (arith, (sizing_fits (channels n) sizing sized).0, count)

  -- a channel that joins two modules, as a place from the one to the other
  one_place : (e u v : ℕ) → Joins n e u v → (p : ℕ) × (p < length (graph_of n sizing)) × ((at (graph_of n sizing) p).from ≡ u - 1) × ((at (graph_of n sizing) p).to ≡ v - 1)
  one_place e u v j =
      let l : e - 1 < length (channels_of n) = omega (arith, j.0.0, j.0.1, count) in
      let two = places_at (kind_of n) (channels_of n) sizing (e - 1) sizes l in
      let long = length_extended (kind_of n) (channels_of n) sizing sizes in
      elim j.1 [
        | inl along ↦ (2 * (e - 1), omega (arith, l, long), ap (λ (p : Place). p.from) two.0 ∙ ap (λ k. k - 1) along.0, ap (λ (p : Place). p.to) two.0 ∙ ap (λ k. k - 1) along.1)
        | inr against ↦ (2 * (e - 1) + 1, omega (arith, l, long), ap (λ (p : Place). p.from) two.1 ∙ ap (λ k. k - 1) against.1, ap (λ (p : Place). p.to) two.1 ∙ ap (λ k. k - 1) against.0)
      ]

  -- so a way of channels, as a walk of places
  walk : (u v : ℕ) (es : List ℕ) → Way n u es v → (ps : List ℕ) × Leads (graph_of n sizing) (u - 1) ps (v - 1) × (length ps ≡ length es)
  walk u v [] w = ([], ap (λ k. k - 1) w, refl)
  walk u v (e ∷ es) w =
      let p = one_place e u w.0 w.1 in
      let rest = walk w.0 v es w.2 in
      (p.0 ∷ rest.0, (p.1, p.2, subst (λ m. Leads (graph_of n sizing) m rest.0 (v - 1)) (sym p.3) rest.1), omega (arith, rest.2))

pub in_one_piece : InOnePiece
in_one_piece n sizing passed sized Q small =
    let few = extended_all (λ p. p.tokens ≤ Q + 1) (kind_of n) (channels_of n) sizing nowhere
    (λ i l m. (omega (arith, few_items (kind_of n (get_or (channels_of n) i nowhere).source)), omega (arith, small i m))) in
    record {
      starts = (fits_as n sizing (modules n) (graph_of n sizing) refl refl sized).starts;
      few = λ p l. All-get_or (λ p. p.tokens ≤ Q + 1) (graph_of n sizing) p (record { from = 0; to = 0; tokens = 0 }) l few;
      joined = λ u v u_in v_in.
          let way = passed.ways (suc u) (suc v) (omega arith, omega arith) (omega arith, omega arith) in
          let w = walk n sizing sized (suc u) (suc v) way.0 way.2 in
          let u_is : suc u - 1 ≡ u = omega arith in
          let v_is : suc v - 1 ≡ v = omega arith in
          (w.0, subst₂ (λ a b. Leads (graph_of n sizing) a w.0 b) u_is v_is w.1, omega (arith, w.2, way.1));
    }

-- no queue is larger than the largest
pub at_most_largest : (qs : List ℕ) (e : ℕ) → e < length qs → get_or qs e 0 ≤ largest qs
at_most_largest [] e l = absurd (omega arith)
at_most_largest (q ∷ qs) zero l = omega arith
at_most_largest (q ∷ qs) (suc e) l = omega (arith, at_most_largest qs e (omega arith))

pub in_one_piece_at_largest : InOnePieceAtLargest
in_one_piece_at_largest n sizing passed sized = in_one_piece n sizing passed sized (largest sizing) (at_most_largest sizing)
