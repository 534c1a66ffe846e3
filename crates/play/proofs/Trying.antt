-- A run under a sizing that was found, and the candidates that were not. Assumes nothing.
use Rattle.std.proofs.Common.{◌≡◌, ℕ, ◌*◌, ◌<◌, ◌≤◌, List, length, ℤ, IsOk, Some, None, Ok, Err, Result, sym, refl, ◌∙◌, subst, subst₂, ⊎_elim, arith}
use Rattle.std.proofs.lemmas.Bool.{le-ltb}
use Rattle.std.proofs.lemmas.Option.{none-some}
use Rattle.std.specs.Int.{IsInRange}
use Rattle.cores.specs.Rules.{Rules}
use Rattle.netlist.specs.declared.netlist.Netlist.{Netlist}
use Rattle.netlist.specs.declared.refusal.Refusal.{Refusal}
use Rattle.netlist.specs.Holds.{channels, modules}
use Rattle.checking.specs.Verdicts.{Passed}
use Rattle.marked.specs.Rates.{IsRate}
use Rattle.rating.specs.declared.rating.Rating.{Rating}
use Rattle.rating.specs.Extended.{graph_of}
use Rattle.rating.specs.Ratings.{Accepted, HoldsRate, RateAnswer, rating_fault}
use Rattle.rating.specs.Sizings.{sizing_fault}
use Rattle.counts.specs.Nets.{net_of}
use Rattle.calls.specs.Laws.{KeepsUp}
use Rattle.calls.proofs.Bounds.{keeps_targets, misses_targets}
use Rattle.sizing.specs.Answers.{SizeAnswer, unreachable}
use Rattle.sizing.specs.Candidates.{Candidate, Fewest, Reaching, Unreached, added}
use Rattle.sizing.specs.Requests.{request_fault}
use Rattle.sizing.specs.Trials.{Ready}
use Rattle.sizing.proofs.Accepting.{request_low, request_proper, request_ready}
use Rattle.sizing.proofs.Readying.{ready_between}
use Rattle.sizing.proofs.Targets.{rate_decides}
use Rattle.play.specs.declared.exchange.Exchange.{Exchange}
use Rattle.play.specs.Answers.{calls_of}
use Rattle.play.specs.Trials.{Found, Misses, Played, Refuses}

-- lists of 64 entries are long enough for every netlist
pub rates : (n : Netlist) (sizing : List ℕ) → sizing_fault (channels n) sizing ≡ None → rating_fault n sizing 64 64 ≡ None
rates n sizing sized = rw (sized, le-ltb 64 (modules n) n.some.1) refl

-- so that no rating is refused for one that is in order
pub rated_ok : (n : Netlist) (sizing cycle cycle' : List ℕ) (potentials potentials' : List ℤ) (r : Result Rating Refusal) → RateAnswer n sizing cycle cycle' potentials potentials' r
    → rating_fault n sizing (length cycle) (length potentials) ≡ None → IsOk r
rated_ok n sizing cycle cycle' potentials potentials' (Ok r) answer fine = refl
rated_ok n sizing cycle cycle' potentials potentials' (Err x) answer fine = absurd (none-some x (sym fine ∙ answer.0))

pub accepted : (n : Netlist) (sizing cycle cycle' : List ℕ) (potentials potentials' : List ℤ) (r : Result Rating Refusal) (x : Rating) → r ≡ Ok x → RateAnswer n sizing cycle cycle' potentials potentials' r
    → Accepted n sizing cycle cycle' potentials potentials' x
accepted n sizing cycle cycle' potentials potentials' r x is answer = subst (λ (y : Result Rating Refusal). RateAnswer n sizing cycle cycle' potentials potentials' y) is answer

module _ (n : Netlist) (a b : ℕ) (caps : List ℕ) (m : ℕ) (sizing : List ℕ) (passed : Passed n) (fine : request_fault (channels n) a b caps m sizing ≡ None) where
  pub candidate_ready : (u : List ℕ) → Candidate sizing caps m u → Ready n caps u
  candidate_ready u cand = ready_between n caps sizing u (request_low (channels n) a b caps m sizing fine) (request_ready (channels n) a b caps m sizing fine n refl) cand.above cand.under

  misses : (u : List ℕ) → Candidate sizing caps m u → (Reaching n a b u → ⊥) → Misses n a b u
  misses u cand never calls long v v_in = let ready = candidate_ready u cand in misses_targets n u passed ready.sized a b (request_proper (channels n) a b caps m sizing fine) never calls long v v_in

  pub fewer_miss : (k : ℕ) (found : List ℕ) → Fewest n a b caps m sizing k found → (u : List ℕ) → Candidate sizing caps m u → added sizing u < k → Misses n a b u
  fewer_miss k found fewest u cand less = misses u cand (λ reach. omega (arith, less, fewest.least u cand reach))

  pub all_miss : Unreached n a b caps m sizing → (u : List ℕ) → Candidate sizing caps m u → Misses n a b u
  all_miss never u cand = misses u cand (never u cand)

-- nothing found
pub refuses : {C Item : Type 0} (n : Netlist) (a b : ℕ) (caps : List ℕ) (m : ℕ) (sizing sizing' : List ℕ) (why : Refusal) (cores : C) (xs : List (Exchange Item)) (t : List Item) → Passed n
    → SizeAnswer n a b caps m sizing sizing' (Err why) → Refuses n a b caps m sizing sizing' why cores cores xs xs t t
refuses n a b caps m sizing sizing' why cores xs t passed answer = record {
  answer = answer;
  all_miss = λ fine.
      ⊎_elim (λ (fault : request_fault (channels n) a b caps m sizing ≡ Some why). absurd (none-some why (sym fine ∙ fault)))
      (λ (un : (request_fault (channels n) a b caps m sizing ≡ None) × (why ≡ unreachable) × Unreached n a b caps m sizing). all_miss n a b caps m sizing passed fine un.2)
      answer.1;
  cores_kept = refl;
  requests_kept = refl;
  table_kept = refl;
}

-- a sizing found, its rating, and the run under it
pub finds : {C Item State : Type 0} (rules : C → Rules Item State) (held : C → ℕ → State) (n : Netlist) (a b : ℕ) (caps : List ℕ) (m : ℕ) (sizing found : List ℕ) (k : ℕ) (cores left : C) (xs ys : List (Exchange Item)) (before table : List Item) (r : Rating)
    → Passed n → request_fault (channels n) a b caps m sizing ≡ None → Fewest n a b caps m sizing k found → r.netlist.now ≡ n → r.sizing.now ≡ found → HoldsRate r
    → Played rules held r.netlist.now r.sizing.now r.rate.0 r.rate.1 cores left xs ys before table
    → Found rules held n a b caps m sizing found k cores left xs ys before table
finds rules held n a b caps m sizing found k cores left xs ys before table r passed fine fewest same_netlist same_sizing holds played =
    let P = r.rate.0 in
    let L = r.rate.1 in
    let proper = request_proper (channels n) a b caps m sizing fine in
    let rate : IsRate (graph_of n found) P L = subst₂ (λ (x : Netlist) (y : List ℕ). IsRate (graph_of x y) P L) same_netlist same_sizing holds.is_rate in
    let up : a * L ≤ P * b = (rate_decides (graph_of n found) P L a b rate proper).0 fewest.reaches in
    record {
      no_fault = fine;
      fewest = fewest;
      P = P;
      L = L;
      is_rate = rate;
      played = subst₂ (λ (x : Netlist) (y : List ℕ). Played rules held x y P L cores left xs ys before table) same_netlist same_sizing played;
      reached = subst₂ (λ (x : Netlist) (y : List ℕ). (v : ℕ) → IsInRange 1 (modules x) v → KeepsUp a b (net_of x y) (calls_of (length before) xs) v) same_netlist same_sizing
          (λ v v_in. keeps_targets r holds a b up (calls_of (length before) xs) v v_in);
      fewer_miss = fewer_miss n a b caps m sizing passed fine k found fewest;
    }
