-- One slot more at a channel: which candidates are left, and when there is none.
use Rattle.std.proofs.Common.{◌≡◌, ℕ, zero, suc, ◌+◌, ◌-◌, ◌<◌, ◌≤◌, ◌≢◌, List, [], ◌∷◌, ◌++◌, length, take, get_or, set, ◌∙◌, ⊎_elim, arith}
use Rattle.std.proofs.lemmas.List.{get_or-set_other, get_or-set_same, length-set, set-get_or, set-set}
use Rattle.std.proofs.Math.Seq.{take-append_seam}
use Rattle.std.proofs.lemmas.Bool.{cases_eq}
use Rattle.sizing.specs.Candidates.{AtLeast, Candidate, added}

-- s with one slot more at e
abbrev pub raised : List ℕ → ℕ → List ℕ
raised s e = set s e (get_or s e 0 + 1)

pub added_raised : (s t : List ℕ) (e : ℕ) → e < length s → length s ≡ length t → get_or s e 0 < get_or t e 0 → added (raised s e) t + 1 ≡ added s t
added_raised [] t e h l d = absurd (omega arith)
added_raised (x ∷ s) [] e h l d = absurd (omega arith)
added_raised (x ∷ s) (y ∷ t) zero h l d = omega arith
added_raised (x ∷ s) (y ∷ t) (suc e) h l d =
    let more : added (raised s e) t + 1 ≡ added s t = added_raised s t e (omega arith) (omega arith) d in omega arith

pub added_same : (s : List ℕ) → added s s ≡ 0
added_same [] = omega arith
added_same (x ∷ s) = omega (arith, added_same s)

pub least_same : (s : List ℕ) → AtLeast s s
least_same s = record { lengths = omega arith; places = λ k. omega arith }

pub least_trans : (s t u : List ℕ) → AtLeast s t → AtLeast t u → AtLeast s u
least_trans s t u a b = record { lengths = a.lengths ∙ b.lengths; places = λ k. omega (arith, a.places k, b.places k) }

-- a byte that is set to a value between its own and that of t
module _ (s t : List ℕ) (e v : ℕ) (within : e < length s) where
  set_places : ((k : ℕ) → get_or s k 0 ≤ get_or t k 0) → v ≤ get_or t e 0 → (k : ℕ) → get_or (set s e v) k 0 ≤ get_or t k 0
  set_places h d k =
      ⊎_elim
      (λ same. rw same (rw get_or-set_same d))
      (λ (other : k ≢ e). rw get_or-set_other (h k))
      (cases_eq k e)

  pub set_below : AtLeast s t → v ≤ get_or t e 0 → AtLeast (set s e v) t
  set_below h d = record { lengths = length-set s e v ∙ h.lengths; places = set_places h.places d }

  grown_places : get_or s e 0 ≤ v → (k : ℕ) → get_or s k 0 ≤ get_or (set s e v) k 0
  grown_places d k =
      ⊎_elim
      (λ same. rw same (rw get_or-set_same d))
      (λ (other : k ≢ e). rw get_or-set_other (omega arith))
      (cases_eq k e)

  pub set_above : get_or s e 0 ≤ v → AtLeast s (set s e v)
  set_above d = record { lengths = omega (arith, length-set s e v); places = grown_places d }

module _ (s t : List ℕ) (e : ℕ) (within : e < length s) where
  deeper_from : AtLeast (raised s e) t → get_or s e 0 < get_or t e 0
  deeper_from h = let at = h.places e in omega (arith, get_or-set_same s e (get_or s e 0 + 1) 0 within)

  lowered : AtLeast (raised s e) t → AtLeast s t
  lowered h = least_trans s (raised s e) t (set_above s t e (get_or s e 0 + 1) within (omega arith)) h

  module _ (caps : List ℕ) (slots : ℕ) where
    -- a candidate that is deeper at e is one of the deepened table, with a slot fewer, and the other way round
    pub candidate_raised : Candidate s caps slots t → get_or s e 0 < get_or t e 0 → Candidate (raised s e) caps (slots - 1) t
    candidate_raised r d =
        record {
          above = set_below s t e (get_or s e 0 + 1) within r.above (omega arith);
          under = r.under;
          few = omega (arith, r.few, added_raised s t e within r.above.lengths d);
        }

    pub candidate_lowered : 0 < slots → Candidate (raised s e) caps (slots - 1) t → Candidate s caps slots t
    candidate_lowered pos r =
        let above : AtLeast s t = lowered r.above in
        record { above = above; under = r.under; few = omega (arith, r.few, added_raised s t e within above.lengths (deeper_from r.above)) }

-- what the guard puts back
put_back : (s last after : List ℕ) (e : ℕ) → last ≡ raised s e → after ≡ set last e (get_or s e 0) → after ≡ s
put_back s last after e p q = q ∙ rw p (set-set s e (get_or s e 0 + 1) (get_or s e 0) ∙ set-get_or s e 0)

module _ (Good : List ℕ → Type 0) (s caps : List ℕ) (slots : ℕ) where
  -- no good candidate is deeper at e
  abbrev pub NoneAt : ℕ → Type 0
  NoneAt e = (t : List ℕ) → Candidate s caps slots t → Good t → get_or s e 0 < get_or t e 0 → ⊥

  -- a channel at its cap
  pub none_capped : (e : ℕ) → get_or caps e 0 ≤ get_or s e 0 → NoneAt e
  none_capped e full t r good d = omega (arith, r.under.places e)

  -- a channel that was tried
  none_tried : (e : ℕ) → e < length s → ((t : List ℕ) → Candidate (raised s e) caps (slots - 1) t → Good t → ⊥) → NoneAt e
  none_tried e h none t r good d = none t (candidate_raised s t e h caps slots r d) good

-- The same for the table `now` that the loop holds, which is s, and for `deep`, which is `now` with one slot more at e.
module _ (s now deep caps : List ℕ) (slots e : ℕ) (same : now ≡ s) (is : deep ≡ raised now e) where
  pub now_reached : (t : List ℕ) → e < length now → 0 < slots → Candidate deep caps (slots - 1) t → Candidate s caps slots t
  now_reached t h pos r = rw same at (candidate_lowered now t e h caps slots pos (rw is at r))

  pub now_back : (last after : List ℕ) (old : ℕ) → old ≡ get_or now e 0 → last ≡ deep → after ≡ set last e old → after ≡ s
  now_back last after old was p q = put_back now last after e (p ∙ is) (rw was at q) ∙ same

  pub now_tried : (Good : List ℕ → Type 0) → e < length now → ((t : List ℕ) → Candidate deep caps (slots - 1) t → Good t → ⊥) → NoneAt Good s caps slots e
  now_tried Good h none = rw same at (none_tried Good now caps slots e h (rw is at none))

pub now_capped : (s now caps : List ℕ) (slots e : ℕ) → now ≡ s → (Good : List ℕ → Type 0) → get_or caps e 0 ≤ get_or now e 0 → NoneAt Good s caps slots e
now_capped s now caps slots e same Good full = rw same at (none_capped Good now caps slots e full)

-- a good table is its own candidate
pub own_candidate : (Good : List ℕ → Type 0) (s caps a : List ℕ) (slots : ℕ) → a ≡ s → AtLeast s caps → Good s → Good a × Candidate s caps slots a
own_candidate Good s caps a slots q under good =
    rw q (good, record { above = least_same s; under = under; few = omega (arith, added_same s) })

-- a table that was copied into the front of a longer one
pub front_copied : (xs sizes rest : List ℕ) → xs ≡ sizes → take (length sizes) (xs ++ rest) ≡ sizes
front_copied xs sizes rest is = rw is (take-append_seam sizes rest)
