-- A fault is the first by the bytes, and a file without fault needs all of its bytes.
use Rattle.std.proofs.Common.{◌≡◌, ℕ, suc, ◌+◌, ◌-◌, ◌≤◌, List, [], ◌∷◌, ◌++◌, length, take, Ok, Err, refl, ap, inl, inr, append_assoc, append-nil, arith, length-append}
use native.Mathlib.Numerals.{unary_clauses}
use Rattle.std.proofs.lemmas.List.{length-take-le, take_all, take-append-le, take_at}
use Rattle.netlist.specs.declared.refusal.Cause.{Cause}
use Rattle.netlist.specs.declared.refusal.Cause.TheVariants.{EndsEarly, CountOutOfRange, ValueOutOfRange, ByteAfterEnd}
use Rattle.netlist.specs.declared.refusal.Refusal.{Refusal}
use Rattle.netlist.specs.Faults.{contents, verdict}
use Rattle.netlist.specs.Laws.{Certain, First, FirstFault, NeedsAll, ShortBelow}
use Rattle.netlist.specs.Layout.{Contents}
use Rattle.netlist.proofs.Laid.{reads_back}
use Rattle.netlist.proofs.Said.{said}
use Rattle.netlist.proofs.Settled.{Judged, Sees, Settles, Short, a_count, a_value, cause_of, close, contents_sees, gives, refuse, refuses, starves, width}

-- A flaw has its place from the front.
placed_at : (bytes : List ℕ) (cause : Cause) (left place : ℕ) → contents bytes ≡ Err (record { cause = cause; left = left }) → length bytes ≡ place + left
    → verdict bytes ≡ Err (record { cause = cause; place = place })
placed_at bytes cause left place h l = rw h (ap (λ (p : ℕ). Err (record { cause = cause; place = p })) (omega arith))

-- What is too short has its place at its end.
short_placed : (file : List ℕ) (n : ℕ) → n ≤ length file → Short contents file n → ShortBelow file n
short_placed file n l s k below = placed_at (take k file) EndsEarly 0 k (s k below) (omega (arith, length-take-le k file (omega arith)))

-- A front is cut as the file is.
front_short : (front rest : List ℕ) (n : ℕ) → n ≤ length front → Short contents front (length front) → ShortBelow (front ++ rest) n
front_short front rest n l s =
    short_placed (front ++ rest) n (omega (arith, length-append front rest)) (λ k below. rw (take-append-le k front rest (omega arith)) (s k (omega arith)))

-- A fault at the end of a front that settles it is certain.
certain : (cause : Cause) (wide place : ℕ) (front rest : List ℕ) → place + wide ≡ length front
    → ((more : List ℕ) → contents (front ++ more) ≡ Err (record { cause = cause; left = length more + wide })) → Certain cause wide (front ++ rest) (record { cause = cause; place = place })
certain cause wide place front rest l stays =
    record {
      is = refl;
      inside = omega (arith, length-append front rest);
      stays = λ more. rw (take_at front rest (place + wide) (omega arith)) (placed_at (front ++ more) cause (length more + wide) place (stays more) (omega (arith, length-append front more)));
    }

-- A count or a value out of range is the first fault.
first_judged : (j : Judged) (place : ℕ) (front rest : List ℕ) → place + width j ≡ length front → Settles contents front (refuse j)
    → First (front ++ rest) (record { cause = cause_of j; place = place })
first_judged a_count place front rest l s =
    inr (inl (certain CountOutOfRange 2 place front rest l s.stays, front_short front rest (place + 2) (omega arith) s.short))
first_judged a_value place front rest l s =
    inr (inr (inl (certain ValueOutOfRange 1 place front rest l s.stays, front_short front rest (place + 1) (omega arith) s.short)))

-- A byte after the end stays one.
late_stays : (c : Contents) (front : List ℕ) (b : ℕ) → Settles contents front (close c)
    → (more : List ℕ) → contents ((front ++ b ∷ []) ++ more) ≡ Err (record { cause = ByteAfterEnd; left = length more + 1 })
late_stays c front b s more = rw (append_assoc, s.stays (b ∷ more)) (simp unary_clauses refl)

-- It is the first fault.
first_late : (c : Contents) (front rest : List ℕ) (b : ℕ) → Settles contents front (close c) → First (front ++ b ∷ rest) (record { cause = ByteAfterEnd; place = length front })
first_late c front rest b s =
    inr (inr (inr (
      rw append_assoc at (certain ByteAfterEnd 1 (length front) (front ++ b ∷ []) rest (omega (arith, length-append front (b ∷ []))) (late_stays c front b s)),
      front_short front (b ∷ rest) (length front) (omega arith) s.short,
      (c, rw (take_at front (b ∷ rest) (length front) refl) (said front c (rw append-nil at (s.stays [])))),
    )))

-- The fault of a file is the one that was found in it.
first_found : (file front rest : List ℕ) (cause : Cause) (left place : ℕ) (x : Refusal) → file ≡ front ++ rest → verdict file ≡ Err x
    → contents (front ++ rest) ≡ Err (record { cause = cause; left = left }) → length front + length rest ≡ place + left
    → First (front ++ rest) (record { cause = cause; place = place }) → First file x
first_found file front rest cause left place x e h found l first =
    let v = placed_at (front ++ rest) cause left place found (omega (arith, length-append front rest)) in
    let same : x ≡ record { cause = cause; place = place } = cc in
    rw (e, same) first

-- By the rule that the reader of a file keeps.
first_by : (file : List ℕ) (x : Refusal) → verdict file ≡ Err x → Sees close contents file → First file x
first_by file x h (starves s) =
    let v = placed_at file EndsEarly 0 (length file) (rw (take_all (length file) file (omega arith)) at (s (length file) (omega arith))) (omega arith) in
    inl (cc, short_placed file (length file) (omega arith) (λ k l. s k (omega arith)))
first_by file x h (refuses j front rest e w s) =
    first_found file front rest (cause_of j) (length rest + width j) (length front - width j) x e h (s.stays rest) (omega arith)
    (first_judged j (length front - width j) front rest (omega arith) s)
first_by file x h (gives c front [] e s) = cc (s.stays [])
first_by file x h (gives c front (b ∷ rest) e s) =
    first_found file front (b ∷ rest) ByteAfterEnd (suc (length rest)) (length front) x e h (s.stays (b ∷ rest)) refl (first_late c front rest b s)

pub first_fault : FirstFault
first_fault file x h = first_by file x h (contents_sees file)

-- By the same rule, no byte is too many.
all_needed : (file : List ℕ) (c : Contents) → contents file ≡ Ok c → Sees close contents file → Short contents file (length file)
all_needed file c h (starves s) = λ k l. s k (omega arith)
all_needed file c h (refuses j front rest e w s) = cc (s.stays rest)
all_needed file c h (gives d front [] e s) = rw (e, append-nil) s.short
all_needed file c h (gives d front (b ∷ rest) e s) = cc (s.stays (b ∷ rest))

pub needs_all : NeedsAll
needs_all file c h =
    short_placed file (length file) (omega arith) (all_needed file c (rw h.laid (reads_back c h.valid)) (contents_sees file))
