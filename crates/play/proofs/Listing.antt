-- One call more. Assumes nothing.
use Rattle.std.proofs.Common.{◌≡◌, ℕ, suc, ◌+◌, ◌<◌, List, [], ◌∷◌, ◌++◌, length, get_or, take, drop, set, Some, None, Ok, Err, Option, Result, sym, refl, ap, ◌∙◌, ap₂, append_assoc, arith}
use Rattle.std.proofs.Math.Seq.{get_or-append_seam, set-append_seam}
use Rattle.std.proofs.lemmas.List.{drop_more, length-take-le, take_more}
use Rattle.netlist.specs.declared.refusal.Refusal.{Refusal}
use Rattle.run.specs.Replies.{reply}
use Rattle.counts.specs.Nets.{Net}
use Rattle.calls.specs.Calls.{Call, Count, after, counted_from, unless}
use Rattle.queues.specs.Strict.{Chip}
use Rattle.play.specs.declared.exchange.Exchange.{Exchange}
use Rattle.play.specs.Answers.{answer, answered_from, asked, calls_of}

-- a question leaves the counts
pub unless_same : (o : Option Refusal) (c : Count) → unless o c c ≡ c
unless_same None c = refl
unless_same (Some why) c = refl

-- a call that is refused answers why, whatever it would have said, and one that is not says what it would have said
pub refused_too : {X Y : Type 0} (o : Option Refusal) (r : Result X Refusal) (e : Refusal) (x : X) (y : Y) → r ≡ Err e → r ≡ reply o x → ◌≡◌ {A = Result Y Refusal} (Err e) (reply o y)
refused_too None r e x y was is = grind arith
refused_too (Some why) r e x y was is = grind arith

pub accepted_too : {X Y : Type 0} (o : Option Refusal) (r : Result X Refusal) (x z : X) (say : X → Y) → r ≡ Ok z → r ≡ reply o x → ◌≡◌ {A = Result Y Refusal} (Ok (say z)) (reply o (say x))
accepted_too None r x z say was is = grind arith
accepted_too (Some why) r x z say was is = grind arith

pub counted_push : (net : Net) (calls : List Call) (x : Call) (c : Count) → counted_from net c (calls ++ x ∷ []) ≡ after net (counted_from net c calls) x
unfolding counted_from
counted_push net [] x c = refl
counted_push net (y ∷ ys) x c = counted_push net ys x (after net c y)

pub calls_push : {Item : Type 0} (n : ℕ) (xs : List (Exchange Item)) (x : Exchange Item) → calls_of n (xs ++ x ∷ []) ≡ calls_of n xs ++ asked n x.request ∷ []
unfolding calls_of
calls_push n [] x = refl
calls_push n (y ∷ ys) x = ap (λ zs. asked n y.request ∷ zs) (calls_push n ys x)

-- the exchange x with the answer that its call gives at the counts c
abbrev pub told_at : {Item State : Type 0} → Chip Item State → ℕ → Count → Exchange Item → Exchange Item
told_at chip n c x = record { request = x.request; answer = Some (answer chip c (asked n x.request)) }

pub answered_push : {Item State : Type 0} (chip : Chip Item State) (n : ℕ) (xs : List (Exchange Item)) (x : Exchange Item) (c : Count)
    → answered_from chip n c (xs ++ x ∷ []) ≡ answered_from chip n c xs ++ told_at chip n (counted_from chip.net c (calls_of n xs)) x ∷ []
unfolding answered_from counted_from calls_of
answered_push chip n [] x c = refl
answered_push chip n (y ∷ ys) x c = ap (λ zs. told_at chip n c y ∷ zs) (answered_push chip n ys x (after chip.net c (asked n y.request)))

answered_length : {Item State : Type 0} (chip : Chip Item State) (n : ℕ) (xs : List (Exchange Item)) (c : Count) → length (answered_from chip n c xs) ≡ length xs
unfolding answered_from
answered_length chip n [] c = refl
answered_length chip n (x ∷ xs) c = ap suc (answered_length chip n xs (after chip.net c (asked n x.request)))

module _ {Item State : Type 0} (chip : Chip Item State) (n : ℕ) (c : Count) (xs ys : List (Exchange Item)) (i : ℕ) (lt : i < length xs) (d : Exchange Item)
    (is : ys ≡ answered_from chip n c (take i xs) ++ drop i xs) where
  -- the exchange that is next
  abbrev pub next : Exchange Item
  next = get_or xs i d

  abbrev ps : List (Exchange Item)
  ps = answered_from chip n c (take i xs)

  long : length ps ≡ i
  long = answered_length chip n (take i xs) c ∙ length-take-le i xs (omega arith)

  opened : ys ≡ ps ++ next ∷ drop (i + 1) xs
  opened = is ∙ ap (λ (zs : List (Exchange Item)). ps ++ zs) (drop_more xs i d lt)

  pub next_there : (e : Exchange Item) → get_or ys i e ≡ next
  next_there e = ap₂ (λ (zs : List (Exchange Item)) (k : ℕ). get_or zs k e) opened (sym long) ∙ get_or-append_seam ps next (drop (i + 1) xs) e

  pub one_answered : (z : Exchange Item) → z ≡ told_at chip n (counted_from chip.net c (calls_of n (take i xs))) next → set ys i z ≡ answered_from chip n c (take (i + 1) xs) ++ drop (i + 1) xs
  one_answered z told =
      ap₂ (λ (zs : List (Exchange Item)) (k : ℕ). set zs k z) opened (sym long) ∙ set-append_seam ps next (drop (i + 1) xs) z
      ∙ sym (ap (λ (zs : List (Exchange Item)). zs ++ drop (i + 1) xs)
      (ap (answered_from chip n c) (take_more xs i d lt) ∙ answered_push chip n (take i xs) next c ∙ ap (λ (y : Exchange Item). ps ++ y ∷ []) (sym told))
      ∙ append_assoc ps (z ∷ []) (drop (i + 1) xs))

  pub one_counted_more : counted_from chip.net c (calls_of n (take (i + 1) xs)) ≡ after chip.net (counted_from chip.net c (calls_of n (take i xs))) (asked n next.request)
  one_counted_more =
      ap (λ (zs : List (Exchange Item)). counted_from chip.net c (calls_of n zs)) (take_more xs i d lt) ∙ ap (counted_from chip.net c) (calls_push n (take i xs) next)
      ∙ counted_push chip.net (calls_of n (take i xs)) (asked n next.request) c
