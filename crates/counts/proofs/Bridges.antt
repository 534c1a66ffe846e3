-- A netlist is ready, steps and counts as its extended graph. Assumes nothing.
use Rattle.std.proofs.Common.{◌≡◌, ℕ, zero, suc, ◌+◌, ◌-◌, ◌<◌, ◌≤◌, Bool, true, false, cond, not, ◌&&◌, ◌||◌, eqb, ltb, leb, List, [], ◌∷◌, length, get_or, replicate, None, sym, refl, ap, ◌∙◌, ap₂, inl, inr, arith}
use mathlib.Core.Bool.{and_assoc}
use Rattle.std.proofs.lemmas.Bool.{cases_eq, cases_lt, eq-eqb, le-leb, le-ltb, lt-leb, lt-ltb, ne_eqb}
use Rattle.firing.specs.Firings.{Firings, Hold, firings, free, held, step, tokens_now}
use Rattle.firing.specs.Firings.{ready as ready_there}
use Rattle.firing.specs.Theorems.{Alike}
use Rattle.firing.proofs.Steps.{local}
use Rattle.marked.specs.Limits.{Starts}
use Rattle.netlist.specs.declared.channel.Channel.{Channel}
use Rattle.netlist.specs.declared.kind.Kind.{Kind}
use Rattle.netlist.specs.declared.kind.Kind.TheVariants.{Block, RelayStation}
use Rattle.netlist.specs.declared.netlist.Netlist.{Netlist}
use Rattle.netlist.specs.Holds.{channels, channels_of, kind_of, modules}
use Rattle.rating.specs.Extended.{backward, extended, forward, graph_of, reset_items}
use Rattle.rating.specs.Sizings.{sizing_fault}
use Rattle.rating.proofs.Fitting.{fits_as}
use Rattle.rating.proofs.Sizes.{sizing_fits}
use Rattle.counts.specs.Nets.{is_block, net_of}
use Rattle.counts.specs.Steps.{freely, is_ready, ready, stepped}
use Rattle.counts.specs.Laws.{FreelyAlike, ReadyAlike, StepsAlike}
use Rattle.counts.proofs.Readiness.{ready_front}

-- a module's number, and its number in a graph
one_less : (s k : ℕ) → 1 ≤ s → eqb s (suc k) ≡ eqb (s - 1) k
one_less s k low =
    elim (cases_eq s (suc k)) [
      | inl e ↦ eq-eqb s (suc k) e ∙ sym (eq-eqb (s - 1) k (omega arith))
      | inr ne ↦ ne_eqb s (suc k) ne ∙ sym (ne_eqb (s - 1) k (λ e. ne (omega (arith, e))))
    ]

-- a channel has an item exactly if the place along it has a token now: a and m are the firings of its source and its sink
has_item : (a b m f t : ℕ) → a ≡ f → m ≡ t → leb 1 (a + b - m) ≡ ltb 0 (b + f - t)
has_item a b m f t p q =
    elim (cases_lt m (a + b)) [
      | inl l ↦ le-leb 1 (a + b - m) (omega arith) ∙ sym (lt-ltb 0 (b + f - t) (omega arith))
      | inr le ↦ lt-leb 1 (a + b - m) (omega arith) ∙ sym (le-ltb 0 (b + f - t) (omega arith))
    ]

-- and room exactly if the place back has one
has_room : (a b m q f t : ℕ) → a ≡ f → m ≡ t → b ≤ 1 → leb (a + b - m) q ≡ ltb 0 (q + 1 - b + t - f)
has_room a b m q f t p r small =
    elim (cases_lt (q + m) (a + b)) [
      | inl l ↦ lt-leb (a + b - m) q (omega arith) ∙ sym (le-ltb 0 (q + 1 - b + t - f) (omega arith))
      | inr le ↦ le-leb (a + b - m) q (omega arith) ∙ sym (lt-ltb 0 (q + 1 - b + t - f) (omega arith))
    ]

-- the items at reset, by the test of a kind
items : (k : Kind) → cond (is_block k) 1 0 ≡ reset_items k
items Block = refl
items RelayStation = refl

pub few_items : (k : Kind) → reset_items k ≤ 1
few_items Block = omega arith
few_items RelayStation = omega arith

abbrev pub nowhere : Channel
nowhere = record { source = 0; sink = 0 }

module _ (kind : ℕ → Kind) (x : ℕ → ℕ) where
  -- the items in a channel
  abbrev items_in : Channel → ℕ
  items_in c = x c.source + cond (is_block (kind c.source)) 1 0 - x c.sink

  -- what a channel lets module k + 1 do, and what its two places let module k do
  one_channel : (k : ℕ) (c : Channel) (q : ℕ) → 1 ≤ c.source → 1 ≤ c.sink →
      ((not (eqb c.sink (suc k)) || leb 1 (items_in c)) && (not (eqb c.source (suc k)) || leb (items_in c) q))
      ≡ ((not (eqb (forward kind c).to k) || ltb 0 (tokens_now (λ i. x (suc i)) (forward kind c)))
      && (not (eqb (backward kind c q).to k) || ltb 0 (tokens_now (λ i. x (suc i)) (backward kind c q))))
  one_channel k c q low_source low_sink =
      let source_is : c.source ≡ suc (c.source - 1) = omega arith in
      let sink_is : c.sink ≡ suc (c.sink - 1) = omega arith in
      let b = reset_items (kind c.source) in
      let a = x c.source in
      let m = x c.sink in
      let f = x (suc (c.source - 1)) in
      let t = x (suc (c.sink - 1)) in
      rw (
        items (kind c.source),
        one_less c.sink k low_sink,
        one_less c.source k low_source,
        has_item a b m f t (ap x source_is) (ap x sink_is),
        has_room a b m q f t (ap x source_is) (ap x sink_is) (few_items (kind c.source)),
      ) refl

  ready_places : (k : ℕ) (cs : List Channel) (qs : List ℕ) → length qs ≡ length cs →
      ((i : ℕ) → i < length cs → 1 ≤ (get_or cs i nowhere).source) → ((i : ℕ) → i < length cs → 1 ≤ (get_or cs i nowhere).sink) →
      ready (λ e. (get_or cs e nowhere).source) (λ e. (get_or cs e nowhere).sink) (λ e. get_or qs e 0) (λ e. items_in (get_or cs e nowhere)) (suc k) (length cs)
      ≡ ready_there (extended kind cs qs) (λ i. x (suc i)) k
  unfolding ready ready_there
  ready_places k [] qs same low_source low_sink = refl
  ready_places k (c ∷ cs) [] same low_source low_sink = absurd (omega arith)
  ready_places k (c ∷ cs) (q ∷ qs) same low_source low_sink =
      ready_front (λ e. (get_or (c ∷ cs) e nowhere).source) (λ e. (get_or (c ∷ cs) e nowhere).sink) (λ e. get_or (q ∷ qs) e 0) (λ e. items_in (get_or (c ∷ cs) e nowhere)) (suc k) (length cs)
      ∙ ap₂ ◌&&◌
      (one_channel k c q (low_source 0 (omega arith)) (low_sink 0 (omega arith)))
      (ready_places k cs qs (omega arith) (λ i l. low_source (suc i) (omega arith)) (λ i l. low_sink (suc i) (omega arith)))
      ∙ and_assoc
      (not (eqb (forward kind c).to k) || ltb 0 (tokens_now (λ i. x (suc i)) (forward kind c)))
      (not (eqb (backward kind c q).to k) || ltb 0 (tokens_now (λ i. x (suc i)) (backward kind c q)))
      (ready_there (extended kind cs qs) (λ i. x (suc i)) k)

module _ (n : Netlist) (sizing : List ℕ) (sized : sizing_fault (channels n) sizing ≡ None) where
  ready_next : (x : ℕ → ℕ) (k : ℕ) → is_ready (net_of n sizing) x (suc k) ≡ ready_there (graph_of n sizing) (λ i. x (suc i)) k
  ready_next x k =
      let count : channels n ≡ length (channels_of n) = omega (arith, n.channels.ok.0) in
      let same : length sizing ≡ length (channels_of n) = omega (arith, (sizing_fits (channels n) sizing sized).0, count) in
      ap (ready (net_of n sizing).source (net_of n sizing).sink (net_of n sizing).size (λ e. items_in (kind_of n) x (get_or (channels_of n) e nowhere)) (suc k)) count
      ∙ ready_places (kind_of n) x k (channels_of n) sizing same (λ i l. (n.sources i nowhere l).0) (λ i l. (n.sinks i nowhere l).0)

  one_more : (m : ℕ) (b : Bool) → m + cond b 1 0 ≡ cond b (m + 1) m
  one_more m true = refl
  one_more m false = omega arith

  step_next : (holds : ℕ → Bool) (h : Hold) (x : ℕ → ℕ) (k : ℕ) → k < modules n → holds (suc k) ≡ held h k →
      stepped (net_of n sizing) holds x (suc k) ≡ step (graph_of n sizing) h (λ i. x (suc i)) k
  unfolding step
  step_next holds h x k l e =
      let low : leb 1 (suc k) ≡ true = le-leb 1 (suc k) (omega arith) in
      let high : leb (suc k) (modules n) ≡ true = le-leb (suc k) (modules n) (omega arith) in
      rw (low, high, e, ready_next x k) (one_more (x (suc k)) (not (held h k) && ready_there (graph_of n sizing) (λ i. x (suc i)) k))

  starts : Starts (modules n) (graph_of n sizing)
  starts = (fits_as n sizing (modules n) (graph_of n sizing) refl refl sized).starts

  -- counts that are the graph's are so after a step
  pub step_agrees : (holds : ℕ → Bool) (h : Hold) (x : ℕ → ℕ) (y : Firings) → ((k : ℕ) → k < modules n → holds (suc k) ≡ held h k) →
      Alike (modules n) (λ k. x (suc k)) y → Alike (modules n) (λ k. stepped (net_of n sizing) holds x (suc k)) (step (graph_of n sizing) h y)
  step_agrees holds h x y same agree k l =
      step_next holds h x k l (same k l) ∙ local (modules n) (graph_of n sizing) starts h (λ i. x (suc i)) y agree k l

  freely_next : (t : ℕ) → Alike (modules n) (λ k. freely (net_of n sizing) t (suc k)) (firings (graph_of n sizing) (replicate t free))
  unfolding freely firings
  freely_next zero k l = refl
  freely_next (suc t) k l = step_agrees (λ _. false) free (freely (net_of n sizing) t) (firings (graph_of n sizing) (replicate t free)) (λ i m. refl) (freely_next t) k l

pub ready_alike : ReadyAlike
ready_alike n sizing sized x v v_in =
    let is : v ≡ suc (v - 1) = omega (arith, v_in.0) in
    ap (is_ready (net_of n sizing) x) is ∙ ready_next n sizing sized x (v - 1)

pub steps_alike : StepsAlike
steps_alike n sizing sized holds h x v v_in e =
    let is : v ≡ suc (v - 1) = omega (arith, v_in.0) in
    ap (stepped (net_of n sizing) holds x) is ∙ step_next n sizing sized holds h x (v - 1) (omega (arith, v_in.0, v_in.1)) (ap holds (sym is) ∙ e)

pub freely_alike : FreelyAlike
freely_alike n sizing sized t v v_in =
    let is : v ≡ suc (v - 1) = omega (arith, v_in.0) in
    ap (freely (net_of n sizing) t) is ∙ freely_next n sizing sized t (v - 1) (omega (arith, v_in.0, v_in.1))
