-- The rows of sizings. Assumes nothing.
use Rattle.std.proofs.Common.{◌≡◌, ℕ, zero, suc, ◌≤◌, Bool, true, false, ◌&&◌, leb, List, [], ◌∷◌, length, get_or, None, Ok, sym, refl, subst, arith}
use Rattle.std.proofs.lemmas.Bool.{and_parts, false≢true, leb-true}
use Rattle.marked.specs.Graphs.{Cycle, Reaches}
use Rattle.netlist.specs.declared.netlist.Netlist.{Netlist}
use Rattle.netlist.specs.Holds.{channels}
use Rattle.netlist.specs.Layout.{Contents}
use Rattle.sizing.specs.Answers.{SizeAnswer}
use Rattle.sizing.specs.Candidates.{AtLeast, Reaching, added}
use Rattle.sizing.specs.Requests.{request_fault}
use Rattle.worked.specs.Netlists.{D, Made, Ring}
use Rattle.worked.specs.Rows.{Beyond, d_caps, ring_caps, RingRows}
use Rattle.worked.proofs.Certificates.{certified, reaches}
use Rattle.worked.proofs.Holding.{channels_are, graph_by, graph_is}
use Rattle.worked.proofs.Rating.{d_cycle, d_round}

-- no byte of s is above that of t: a test, which worked tables pass by computing
abbrev pub under : List ℕ → List ℕ → Bool
under [] t = true
under (x ∷ s) [] = false
under (x ∷ s) (y ∷ t) = leb x y && under s t

under_at : (s t : List ℕ) → under s t ≡ true → (k : ℕ) → get_or s k 0 ≤ get_or t k 0
under_at [] t h k = omega arith
under_at (x ∷ s) [] h k = absurd (false≢true h)
under_at (x ∷ s) (y ∷ t) h zero = leb-true x y (and_parts _ _ h).0
under_at (x ∷ s) (y ∷ t) h (suc k) = under_at s t (and_parts (leb x y) _ h).1 k

at_least : (s t : List ℕ) → length s ≡ length t → under s t ≡ true → AtLeast s t
at_least s t same h = record { lengths = same; places = under_at s t h }

-- reaching a target, said of the graph without the netlist
module _ (c : Contents) (n : Netlist) (made : Made c n) (a b : ℕ) (t : List ℕ) where
  reaching : Reaches a b (graph_by c t) → Reaching n a b t
  reaching = subst (Reaches a b) (sym (graph_is c n made t))

  reached : Reaching n a b t → Reaches a b (graph_by c t)
  reached = subst (Reaches a b) (graph_is c n made t)

-- a request's fault depends only on how many channels there are
in_order : (c : Contents) (n : Netlist) → Made c n → (a b : ℕ) (caps : List ℕ) (m : ℕ) → request_fault (length c.channels) a b caps m c.sizes ≡ None
    → request_fault (channels n) a b caps m c.sizes ≡ None
in_order c n made a b caps m = subst (λ (e : ℕ). request_fault e a b caps m c.sizes ≡ None) (sym (channels_are c n made))

-- for 1/1 the cycle of D needs one token more, which only a slot gives
lacks : (t : List ℕ) → AtLeast D.sizes t → Reaches 1 1 (graph_by D t) → 1 ≤ added D.sizes t
lacks (p ∷ q ∷ r ∷ s ∷ []) above reach = omega (arith, reach d_cycle (d_round p q r s))
lacks [] above reach = absurd (omega (arith, above.lengths))
lacks (p ∷ []) above reach = absurd (omega (arith, above.lengths))
lacks (p ∷ q ∷ []) above reach = absurd (omega (arith, above.lengths))
lacks (p ∷ q ∷ r ∷ []) above reach = absurd (omega (arith, above.lengths))
lacks (p ∷ q ∷ r ∷ s ∷ x ∷ t) above reach = absurd (omega (arith, above.lengths))

-- the ring's places forward hold 2 tokens under every sizing
ring_round : (p q r : ℕ) → Cycle (graph_by Ring (p ∷ q ∷ r ∷ [])) (0 ∷ 2 ∷ 4 ∷ [])
ring_round p q r = record { some = omega arith; hub = 0; closed = (omega arith, refl, (omega arith, refl, (omega arith, refl, refl))) }

slow : (t : List ℕ) → length Ring.sizes ≡ length t → Reaches 3 4 (graph_by Ring t) → ⊥
slow (p ∷ q ∷ r ∷ []) same reach = omega (arith, reach (0 ∷ 2 ∷ 4 ∷ []) (ring_round p q r))
slow [] same reach = omega arith
slow (p ∷ []) same reach = omega arith
slow (p ∷ q ∷ []) same reach = omega arith
slow (p ∷ q ∷ r ∷ s ∷ t) same reach = omega arith

module _ (n : Netlist) (made : Made D n) where
  -- a table of four bytes that adds one slot, within the caps, and has depths that show it
  pub one_slot : (t ds : List ℕ) → length t ≡ 4 → under D.sizes t ≡ true → under t d_caps ≡ true → added D.sizes t ≡ 1 → certified 1 1 ds (graph_by D t) ≡ true
      → SizeAnswer n 1 1 d_caps 1 D.sizes t (Ok 1)
  one_slot t ds four above capped one passes = (
    in_order D n made 1 1 d_caps 1 refl,
    record {
      candidate = record { above = at_least D.sizes t (sym four) above; under = at_least t d_caps four capped; few = omega arith };
      reaches = reaching D n made 1 1 t (reaches 1 1 ds (graph_by D t) passes);
      adds = one;
      least = λ u candidate reach. lacks u candidate.above (reached D n made 1 1 u reach);
    },
  )

  pub no_slot : Beyond n 1 1 d_caps 0 D.sizes
  no_slot = (in_order D n made 1 1 d_caps 0 refl, λ t candidate reach. omega (arith, candidate.few, lacks t candidate.above (reached D n made 1 1 t reach)))

pub ring : (n : Netlist) → Made Ring n → RingRows n
ring n made = record {
  as_it_is = (
    in_order Ring n made 2 3 ring_caps 8 refl,
    record {
      candidate = record { above = at_least _ _ refl refl; under = at_least _ _ refl refl; few = omega arith };
      reaches = reaching Ring n made 2 3 Ring.sizes (reaches 2 3 (2 ∷ 1 ∷ 0 ∷ []) (graph_by Ring Ring.sizes) refl);
      adds = refl;
      least = λ u candidate reach. omega arith;
    },
  );
  too_fast = (in_order Ring n made 3 4 ring_caps 8 refl, λ t candidate reach. slow t candidate.above.lengths (reached Ring n made 3 4 t reach));
}
