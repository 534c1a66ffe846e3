-- The answer of several calls, and one command more.
use Rattle.std.proofs.Common.{◌≡◌, ℕ, zero, suc, ◌+◌, ◌-◌, ◌<◌, Bool, true, false, cond, List, [], ◌∷◌, ◌++◌, length, get_or, take, drop, Some, None, Option, MatchOption, Bor, sym, refl, ◌∙◌, append_assoc, arith}
use Rattle.std.proofs.lemmas.List.{at_drop_more}
use Rattle.std.specs.List.{find, slice_get}
use Rattle.std.specs.Option.{option_map, option_map_or, option_or}
use Rattle.play.specs.declared.exchange.Exchange.{Exchange}
use Rattle.trace_text.specs.declared.command.Command.{Command}
use Rattle.trace_text.specs.declared.command.Command.TheVariants.{Prime}
use Rattle.netlist.specs.declared.netlist.Module.{Module}
use Rattle.netlist.specs.Holds.{entry_of}
use Rattle.report.specs.Lines.{numbered}
use Rattle.trace_text.specs.Lines.{Answered, answer_line, answer_lines, calls_in, channel_line, count_of, done, fired_line, outcome_from, refuses, trace_lines}

pub answers_more : (cs : List Command) (xs own others : List (Exchange ℕ)) (i : ℕ) (text line new whole : List ℕ) → i < length cs
    → own ≡ take (count_of (get_or cs i Prime)) xs → others ≡ drop (count_of (get_or cs i Prime)) xs → line ≡ answer_line (get_or cs i Prime) own → new ≡ text ++ line
    → text ++ answer_lines (drop i cs) xs ≡ whole → new ++ answer_lines (drop (i + 1) cs) others ≡ whole
answers_more cs xs own others i text line new whole h o r l n e =
    let step : answer_lines (drop i cs) xs ≡ answer_line (get_or cs i Prime) (take (count_of (get_or cs i Prime)) xs) ++ answer_lines (drop (i + 1) cs) (drop (count_of (get_or cs i Prime)) xs) = at_drop_more (λ ys. answer_lines ys xs) cs i Prime h in
    rw (n, l, o, r, append_assoc, ← step) e

pub calls_step : (cs : List Command) (i : ℕ) → i < length cs → calls_in (drop i cs) ≡ count_of (get_or cs i Prime) + calls_in (drop (i + 1) cs)
calls_step cs i h = at_drop_more calls_in cs i Prime h

three : (t a b d : List ℕ) → ((t ++ a) ++ b) ++ d ≡ t ++ (a ++ (b ++ d))
three t a b d = simp append_assoc

-- the lines of a trace, one text after another; the parts of the exchanges start at 0, q, f and g
pub trace_joined : (cs : List Command) (ms : List Module) (channels : ℕ) (xs : List (Exchange ℕ)) (q f g : ℕ) (s t u v : List ℕ)
    → q ≡ calls_in cs → f ≡ calls_in cs + length ms → g ≡ calls_in cs + length ms + channels → length xs ≡ calls_in cs + length ms + channels + channels
    → t ≡ s ++ answer_lines cs (take (q - 0) xs) → u ≡ t ++ numbered (λ k m. fired_line (take (f - q) (drop q xs)) k (entry_of m)) 1 ms
    → v ≡ u ++ numbered (channel_line (take (length xs - g) (drop g xs))) 1 (take (g - f) (drop f xs)) → v ≡ s ++ trace_lines cs ms channels xs
trace_joined cs ms channels xs q f g s t u v hq hf hg long first second third =
    let e0 : q - 0 ≡ calls_in cs = omega (arith, hq) in
    let e1 : f - q ≡ length ms = omega (arith, hq, hf) in
    let e2 : g - f ≡ channels = omega (arith, hf, hg) in
    let e3 : length xs - g ≡ channels = omega (arith, hg, long) in
    rw (third, second, first, e0, e1, e2, e3, hq, hf, hg) (three s _ _ _)

abbrev told : Option (Exchange ℕ) → Answered → Answered
told o d = option_map_or (λ x. x.answer) o d

one_or : (b : Bool) (x : Exchange ℕ) (rest d : Answered) (f l : Option (Exchange ℕ)) → rest ≡ told (option_or f l) d → cond b x.answer rest ≡ told (option_or (cond b (Some x) f) l) d
one_or true x rest d f l e = refl
one_or false x rest d f l e = e

found_at : (d e : Answered) (x : Exchange ℕ) (xs : List (Exchange ℕ)) (k : ℕ) → k ≡ length xs → outcome_from e (x ∷ xs) ≡ told (option_or (find (λ y. refuses y.answer) (x ∷ xs)) (slice_get (x ∷ xs) k)) d
found_at d e x [] zero is = one_or (refuses x.answer) x x.answer d None (Some x) refl
found_at d e x [] (suc k) is = absurd (omega (arith, is))
found_at d e x (y ∷ ys) zero is = absurd (omega (arith, is))
found_at d e x (y ∷ ys) (suc k) is = one_or (refuses x.answer) x (outcome_from x.answer (y ∷ ys)) d (find (λ y. refuses y.answer) (y ∷ ys)) (slice_get (y ∷ ys) k) (found_at d x.answer y ys k (omega (arith, is)))

lent_told : (f l : Option (Bor (Exchange ℕ))) (r d : Answered) → MatchOption (option_or f l) (r ≡ d) (λ x. r ≡ x.now.answer) → r ≡ told (option_or (option_map (λ x. x.now) f) (option_map (λ x. x.now) l)) d
lent_told (Some x) l r d h = h
lent_told None (Some x) r d h = h
lent_told None None r d h = h

-- the first refusal, or else the last answer
pub outcome_found : (xs : List (Exchange ℕ)) (f l : Option (Bor (Exchange ℕ))) (r : Answered) → option_map (λ x. x.now) f ≡ find (λ x. refuses x.answer) xs → option_map (λ x. x.now) l ≡ slice_get xs (length xs - 1)
    → MatchOption (option_or f l) (r ≡ done) (λ x. r ≡ x.now.answer) → r ≡ outcome_from done xs
outcome_found [] f l r first last h = rw (first, last) at (lent_told f l r done h)
outcome_found (x ∷ xs) f l r first last h =
    let k : length (x ∷ xs) - 1 ≡ length xs = omega arith in
    (rw (first, last, k) at (lent_told f l r done h)) ∙ sym (found_at done done x xs (length xs) refl)
