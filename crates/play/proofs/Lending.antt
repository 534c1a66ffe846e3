-- A call that is lent a part of the item table. Assumes nothing.
use Rattle.std.proofs.Common.{◌≡◌, ℕ, ◌-◌, ◌<◌, ◌≤◌, Bool, true, false, cond, ltb, leb, List, ◌++◌, length, get_or, take, drop, min, IfErr, Some, None, Option, Result, sym, refl, ap, ◌∙◌, subst, subst₂, inl, inr, arith, take-append-drop}
use Rattle.std.proofs.lemmas.List.{get_or-append_right, get_or-drop, get_or-take, get_or_append_left, get_or_past, length-take, length-take-le}
use Rattle.std.proofs.lemmas.Bool.{ltb-false, cases_lt}
use Rattle.std.proofs.lemmas.Option.{none-some}
use Rattle.cores.specs.Rules.{Rules}
use Rattle.netlist.specs.declared.refusal.Refusal.{Refusal}
use Rattle.calls.specs.Calls.{Call, Count, after, done, entries, front, prime, put, refusal, short_table, spent, step, out_of_turn, unless}
use Rattle.queues.specs.Stands.{items}
use Rattle.queues.specs.Strict.{Chip}
use Rattle.queues.proofs.Tables.{behind_all}
use Rattle.run.specs.declared.run.Run.{Run}
use Rattle.run.specs.Replies.{front_item, left_by, reply}
use Rattle.run.specs.Tells.{Tells}
use Rattle.run.proofs.Tables.{told_alike, told_counts}

-- the first n entries of a table with other ones put back
pub part_back : {X : Type 0} (n : ℕ) (t q : List X) → length q ≡ n → (j : ℕ) (d : X) → j < n → get_or (q ++ drop n t) j d ≡ get_or q j d
part_back n t q is j d lt = get_or_append_left q (drop n t) d j (omega (arith, is))

pub part_past : {X : Type 0} (n : ℕ) (t : List X) (k : ℕ) (d : X) → n ≤ k → get_or (take n t) k d ≡ d
part_past n t k d le = get_or_past (take n t) k d (omega (arith, length-take n t))

pub part_behind : {X : Type 0} (n : ℕ) (t q : List X) → length q ≡ n → (k : ℕ) (d : X) → n ≤ k → get_or (q ++ drop n t) k d ≡ get_or t k d
part_behind n t q is k d le = get_or-append_right q (drop n t) n k d is le ∙ get_or-drop n t (k - n) d ∙ ap (λ (i : ℕ). get_or t i d) (omega arith)

-- an accepted call was lent all entries of the channels
step_tests : (p s m : Bool) (x y z : Refusal) → cond p (cond s (Some x) (cond m (Some y) None)) (Some z) ≡ None → s ≡ false
step_tests true true m x y z e = absurd (none-some x (sym e))
step_tests true false m x y z e = refl
step_tests false s m x y z e = absurd (none-some z (sym e))

prime_tests : (p s : Bool) (x y : Refusal) → cond p (Some x) (cond s (Some y) None) ≡ None → s ≡ false
prime_tests true s x y e = absurd (none-some x (sym e))
prime_tests false true x y e = absurd (none-some y (sym e))
prime_tests false false x y e = refl

pub step_enough : {Item State : Type 0} (chip : Chip Item State) (c : Count) (n : ℕ) → refusal chip.net c (step n) ≡ None → entries chip.net ≤ n
step_enough chip c n e = ltb-false n (entries chip.net) (step_tests c.primed (ltb n (entries chip.net)) (leb 100000000 c.steps) (short_table chip.net) spent out_of_turn e)

pub prime_enough : {Item State : Type 0} (chip : Chip Item State) (c : Count) (n : ℕ) → refusal chip.net c (prime n) ≡ None → entries chip.net ≤ n
prime_enough chip c n e = ltb-false n (entries chip.net) (prime_tests c.primed (ltb n (entries chip.net)) out_of_turn (short_table chip.net) e)

module _ {C Item State : Type 0} (rules : C → Rules Item State) (held : C → ℕ → State) (chip : Chip Item State) (c : Count) (before : List Item) (run : Run C) (t : List Item) (td : Tells true rules held chip c before run t) where
  -- the counts stand, whatever is lent
  pub lent_counts : (p : List Item) → Tells false rules held chip c p run p
  lent_counts p = told_counts true before chip c run.inner (rules run.cores) (held run.cores) t td p p

  -- the items too, if it is enough
  pub lent_items : (n : ℕ) → entries chip.net ≤ n → Tells true rules held chip c (take n before) run (take n t)
  lent_items n enough =
      told_alike true before chip c run.inner (rules run.cores) (held run.cores) t td (take n before) (take n t)
      (λ k d lt. get_or-take n t k d (omega (arith, td.entries)))
      (λ k d lt. get_or-take n before k d (omega (arith, td.entries)))
      (λ k d le. elim (cases_lt k n) [
        | inl lt ↦ get_or-take n t k d lt ∙ behind_all chip.net run.inner.channels t true before (λ e. c.firings (chip.net.sink e)) (put chip.net c) (items chip) td.stands.matches td.stands.flows refl k d (omega (arith, td.entries)) ∙ sym (get_or-take n before k d lt)
        | inr past ↦ part_past n t k d past ∙ sym (part_past n before k d past)
      ])

  -- what comes back of the part is put before the rest
  returned : (n : ℕ) (d : Count) (run' : Run C) (p' t' : List Item) → entries chip.net ≤ n → Tells true rules held chip d (take n before) run' p'
      → ((j : ℕ) (x : Item) → j < n → get_or t' j x ≡ get_or p' j x) → ((k : ℕ) (x : Item) → n ≤ k → get_or t' k x ≡ get_or t k x) → Tells true rules held chip d before run' t'
  returned n d run' p' t' enough td' back past =
      told_alike true (take n before) chip d run'.inner (rules run'.cores) (held run'.cores) p' td' before t'
      (λ k x lt. back k x (omega (arith, td'.entries)))
      (λ k x lt. sym (get_or-take n before k x (omega (arith, td'.entries))))
      (λ k x le. elim (cases_lt k n) [
        | inl lt ↦ back k x lt ∙ behind_all chip.net run'.inner.channels p' true (take n before) (λ e. d.firings (chip.net.sink e)) (put chip.net d) (items chip) td'.stands.matches td'.stands.flows refl k x (omega (arith, td'.entries)) ∙ get_or-take n before k x lt
        | inr far ↦ past k x far ∙ behind_all chip.net run.inner.channels t true before (λ e. c.firings (chip.net.sink e)) (put chip.net c) (items chip) td.stands.matches td.stands.flows refl k x (omega (arith, enough))
      ])

  given_back : (n : ℕ) (d : Count) (o : Option Refusal) (run' : Run C) (p' t' : List Item) → (o ≡ None → entries chip.net ≤ n)
      → IfErr (reply {X = Unit {0}} o tt) (λ _. (run' ≡ run) × (p' ≡ take n t))
      → (Tells true rules held chip c (take n before) run (take n t) → Tells true rules held chip (left_by (reply {X = Unit {0}} o tt) c d) (take n before) run' p')
      → ((j : ℕ) (x : Item) → j < n → get_or t' j x ≡ get_or p' j x) → ((k : ℕ) (x : Item) → n ≤ k → get_or t' k x ≡ get_or t k x) → (p' ≡ take n t → t' ≡ t)
      → Tells true rules held chip (unless o d c) before run' t'
  given_back n d None run' p' t' enough refused told back past same = returned n d run' p' t' (enough refl) (told (lent_items n (enough refl))) back past
  given_back n d (Some why) run' p' t' enough refused told back past same =
      subst₂ (λ (z : Run C) (y : List Item). Tells true rules held chip c before z y) (sym refused.0) (sym (same refused.1)) td

  -- a call that works on the first n entries and answers r
  pub lend : (n : ℕ) (d : Count) (o : Option Refusal) (r : Result (Unit {0}) Refusal) (run' : Run C) (p' : List Item) → r ≡ reply o tt → length p' ≡ n → (o ≡ None → entries chip.net ≤ n)
      → IfErr r (λ _. (run' ≡ run) × (p' ≡ take n t))
      → (Tells true rules held chip c (take n before) run (take n t) → Tells true rules held chip (left_by r c d) (take n before) run' p')
      → Tells true rules held chip (unless o d c) before run' (p' ++ drop n t)
  lend n d o r run' p' is long enough refused told =
      given_back n d o run' p' (p' ++ drop n t) enough
      (subst (λ (z : Result (Unit {0}) Refusal). IfErr z (λ _. (run' ≡ run) × (p' ≡ take n t))) is refused)
      (λ td₁. subst (λ (z : Result (Unit {0}) Refusal). Tells true rules held chip (left_by z c d) (take n before) run' p') is (told td₁))
      (part_back n t p' long) (part_behind n t p' long) (λ is. ap (λ (z : List Item). z ++ drop n t) is ∙ take-append-drop n t)

  -- a call that asks for m entries and is lent the first n of them, which are as many as there are if it asks for more
  pub lent_call : (call : ℕ → Call) (m n : ℕ) (r : Result (Unit {0}) Refusal) (run' : Run C) (p' : List Item) → ((i : ℕ) → refusal chip.net c (call i) ≡ None → entries chip.net ≤ i)
      → n ≡ min m (length t) → n ≤ length t → length p' ≡ length (take n t)
      → ((ok : Bool) (start : List Item) → Tells ok rules held chip c start run (take n t) → (r ≡ reply (refusal chip.net c (call (length (take n t)))) tt) × Tells ok rules held chip (left_by r c (done chip.net c (call (length (take n t))))) start run' p')
      → IfErr r (λ _. (run' ≡ run) × (p' ≡ take n t))
      → (r ≡ reply (refusal chip.net c (call (min m (length t)))) tt) × Tells true rules held chip (after chip.net c (call (min m (length t)))) before run' (p' ++ drop n t)
  lent_call call m n r run' p' enough is le same told refused =
      let long : length (take n t) ≡ n = length-take-le n t le in
      let replied : r ≡ reply (refusal chip.net c (call n)) tt = (told false (take n t) (lent_counts (take n t))).0 ∙ ap (λ (i : ℕ). reply {X = Unit {0}} (refusal chip.net c (call i)) tt) long in
      subst (λ (i : ℕ). (r ≡ reply (refusal chip.net c (call i)) tt) × Tells true rules held chip (after chip.net c (call i)) before run' (p' ++ drop n t)) is (
        replied,
        lend n (done chip.net c (call n)) (refusal chip.net c (call n)) r run' p' replied (same ∙ long) (enough n) refused
            (λ td₁. subst (λ (i : ℕ). Tells true rules held chip (left_by r c (done chip.net c (call i))) (take n before) run' p') long (told true (take n before) td₁).1),
      )

  -- the question for the oldest item is answered whatever is lent
  pub front_lent : (e m n : ℕ) (r : Result (Option Item) Refusal) → n ≡ min m (length t) → n ≤ length t
      → (Tells true rules held chip c (take n before) run (take n t) → r ≡ reply (refusal chip.net c (front e (length (take n t)))) (front_item chip c e))
      → (length (take n t) < run.inner.channels.entries → r ≡ reply (refusal chip.net c (front e (length (take n t)))) (front_item chip c e))
      → r ≡ reply (refusal chip.net c (front e (min m (length t)))) (front_item chip c e)
  front_lent e m n r is le told short =
      let long : length (take n t) ≡ n = length-take-le n t le in
      let answered : r ≡ reply (refusal chip.net c (front e (length (take n t)))) (front_item chip c e) = elim (cases_lt n (entries chip.net)) [
        | inl less ↦ short (omega (arith, long, td.entries))
        | inr enough ↦ told (lent_items n enough)
      ] in
      answered ∙ ap (λ (k : ℕ). reply (refusal chip.net c (front e k)) (front_item chip c e)) (long ∙ is)
