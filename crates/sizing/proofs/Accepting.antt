-- What a request without fault brings.
use Rattle.std.proofs.Common.{◌≡◌, ℕ, zero, suc, ◌≤◌, true, ◌&&◌, eqb, leb, List, [], ◌∷◌, length, get_or, Some, None, Option, refl, subst, inr, MatchOption, arith}
use Rattle.std.proofs.lemmas.Bool.Decides.{nat_tests}
use Rattle.std.specs.Int.{IsInRange, is_in_range}
use Rattle.netlist.specs.declared.netlist.Netlist.{Netlist}
use Rattle.netlist.specs.declared.refusal.Refusal.{Refusal}
use Rattle.netlist.specs.Holds.{channels}
use Rattle.netlist.proofs.Sound.{within_in}
use Rattle.rating.specs.Sizings.{sizes_refused, sizing_fault}
use Rattle.rating.proofs.Sizes.{cond_none, same_length, sizing_fits}
use Rattle.std.specs.Option.{ok_or}
use Rattle.sizing.specs.Answers.{SizeAnswer, unreachable}
use Rattle.sizing.specs.Candidates.{Fewest, Unreached}
use Rattle.sizing.specs.Requests.{allowance_fault, bad_cap, caps_fault, or_else, request_fault, target_fault}
use Rattle.sizing.specs.Trials.{Low, Ready}

or_none : (x y : Option Refusal) → or_else x y ≡ None → (x ≡ None) × (y ≡ None)
or_none (Some x) y h = absurd (let z : ◌≡◌ {A = ℕ} 0 1 = cc in omega arith)
or_none None y h = (refl, h)

at_most_one : (a b : ℕ) → (is_in_range 1 64 b && is_in_range 1 b a) ≡ true → a ≤ b
at_most_one a b h = grind (arith, nat_tests)

at_most : (m : ℕ) → leb m 8 ≡ true → m ≤ 8
at_most m h = grind (arith, nat_tests)

caps_fit : (k : ℕ) (qs cs : List ℕ) → length cs ≡ length qs → bad_cap k qs cs ≡ None → (i : ℕ) → IsInRange (get_or qs i 0) 16 (get_or cs i 0)
caps_fit k [] [] l h i = (omega arith, omega arith)
caps_fit k [] (c ∷ cs) l h i = absurd (omega arith)
caps_fit k (q ∷ qs) [] l h i = absurd (omega arith)
caps_fit k (q ∷ qs) (c ∷ cs) l h zero = within_in q 16 c (cond_none (is_in_range q 16 c) (bad_cap (suc k) qs cs) (sizes_refused k) h).0
caps_fit k (q ∷ qs) (c ∷ cs) l h (suc i) = caps_fit (suc k) qs cs (omega arith) (cond_none (is_in_range q 16 c) (bad_cap (suc k) qs cs) (sizes_refused k) h).1 i

module _ (e a b : ℕ) (caps : List ℕ) (m : ℕ) (sizing : List ℕ) (h : request_fault e a b caps m sizing ≡ None) where
  parts : (target_fault a b ≡ None) × (sizing_fault e sizing ≡ None) × (caps_fault sizing caps ≡ None) × (allowance_fault m ≡ None)
  parts =
      let p = or_none (target_fault a b) _ h in
      let q = or_none (sizing_fault e sizing) _ p.1 in
      let r = or_none (caps_fault sizing caps) _ q.1 in
      (p.0, q.0, r.0, r.1)

  pub request_proper : a ≤ b
  request_proper = at_most_one a b (cond_none (is_in_range 1 64 b && is_in_range 1 b a) None _ parts.0).0

  pub request_few : m ≤ 8
  request_few = at_most m (cond_none (leb m 8) None _ parts.3).0

  pub request_long : length sizing ≡ e
  request_long = (sizing_fits e sizing parts.1).0

  caps_long : length caps ≡ length sizing
  caps_long = same_length (length caps) (length sizing) (cond_none (eqb (length caps) (length sizing)) (bad_cap 1 sizing caps) (sizes_refused 0) parts.2).0

  caps_in : (i : ℕ) → IsInRange (get_or sizing i 0) 16 (get_or caps i 0)
  caps_in = caps_fit 1 sizing caps caps_long (cond_none (eqb (length caps) (length sizing)) (bad_cap 1 sizing caps) (sizes_refused 0) parts.2).1

  pub request_low : Low caps
  request_low k = (caps_in k).1

  pub request_ready : (n : Netlist) → e ≡ channels n → Ready n caps sizing
  request_ready n same =
      record {
        sized = subst (λ (k : ℕ). sizing_fault k sizing ≡ None) same parts.1;
        under = record { lengths = omega (arith, caps_long); places = λ k. (caps_in k).0 };
      }

  -- what was found for the netlist that a checked one lends
  pub of_checked : (lent n : Netlist) → lent ≡ n → e ≡ channels lent → (P : Netlist → Type 0) → P lent → (request_fault (channels n) a b caps m sizing ≡ None) × P n
  of_checked lent n is same P p =
      subst (λ (x : Netlist). (request_fault (channels x) a b caps m sizing ≡ None) × P x) is
      (subst (λ (k : ℕ). request_fault k a b caps m sizing ≡ None) same h, p)

-- the answer that a search gives, or the refusal where it found nothing
pub answered : (n : Netlist) (a b : ℕ) (caps : List ℕ) (m : ℕ) (sizing sizing' : List ℕ) (found : Option ℕ)
    → (request_fault (channels n) a b caps m sizing ≡ None)
    × MatchOption found ((sizing' ≡ sizing) × Unreached n a b caps m sizing) (λ k. Fewest n a b caps m sizing k sizing')
    → SizeAnswer n a b caps m sizing sizing' (ok_or found unreachable)
answered n a b caps m sizing sizing' (Some k) (fault, found) = (fault, found)
answered n a b caps m sizing sizing' None (fault, found) = (found.0, inr (fault, refl, found.1))
