-- What a trial answered, as it is printed. Assumes nothing.
use Rattle.std.proofs.Common.{◌≡◌, ℕ, zero, suc, ◌+◌, ◌≤◌, List, [], ◌∷◌, ◌++◌, length, take, replicate, None, Ok, Err, vec_items, Result, String, Global, IsErrAnd, refl, ◌∙◌, subst, ap₂, subst₂, inl, inr, append_assoc, arith}
use Rattle.std.proofs.Math.Seq.{take-append_seam}
use Rattle.std.proofs.lemmas.List.{length-append, length-replicate}
use Rattle.cores.specs.Rules.{Rules}
use Rattle.cores.specs.declared.sum.SumSet.{SumSet}
use Rattle.cores.specs.Sets.{sum_held, sum_rules}
use Rattle.netlist.specs.declared.netlist.Module.{Module}
use Rattle.netlist.specs.declared.netlist.Netlist.{Netlist}
use Rattle.netlist.specs.declared.reading.ReadError.{ReadError}
use Rattle.netlist.specs.declared.reading.ReadError.TheVariants.{Refused}
use Rattle.netlist.specs.declared.refusal.Refusal.{Refusal}
use Rattle.netlist.specs.Holds.{channels, modules}
use Rattle.sizing.specs.Answers.{SizeAnswer}
use Rattle.play.specs.declared.exchange.Exchange.{Exchange}
use Rattle.play.specs.Trials.{Found, Refuses, Tried}
use Rattle.report.specs.declared.request.Request.{Request}
use Rattle.report.specs.Files.{OnPrinted}
use Rattle.report.specs.Lines.{numbered}
use Rattle.report.specs.Sizes.{added_line, deepened_line}
use Rattle.report.proofs.Asked.{asked}
use Rattle.report.proofs.Printed.{handed_on}
use Rattle.trace_text.specs.declared.command.Command.{Command}
use Rattle.trace_text.specs.declared.command.Command.TheVariants.{Firings, Fill, Front}
use Rattle.trace_text.specs.Lines.{asked_for, calls_in, count_of, exchanges_in, exchanges_of, questions, request_of, trace_lines}
use Rattle.trace_text.specs.Traces.{TraceText}

-- what was lent comes back as the front
pub take_front : {X : Type 0} (n : ℕ) (xs ys : List X) → n ≡ length xs → take n (xs ++ ys) ≡ xs
take_front n xs ys is = rw is (take-append_seam xs ys)

calls_long : (cs : List Command) → length (exchanges_in cs) ≡ calls_in cs
calls_long [] = refl
calls_long (c ∷ cs) = length-append (exchanges_of c) (exchanges_in cs) ∙ ap₂ ◌+◌ (length-replicate {A = Exchange ℕ} (count_of c) (record { request = request_of c; answer = None })) (calls_long cs)

questions_long : (ask : ℕ → Command) → ((k : ℕ) → count_of (ask k) ≡ 1) → (n : ℕ) → length (questions ask n) ≡ n
questions_long ask one zero = refl
questions_long ask one (suc n) = omega (arith, length-append (questions ask n) (exchanges_of (ask (suc n))), questions_long ask one n, length-replicate {A = Exchange ℕ} (count_of (ask (suc n))) (record { request = request_of (ask (suc n)); answer = None }), one (suc n))

pub asked_long : (cs : List Command) (n m : ℕ) → length (asked_for cs n m) ≡ calls_in cs + n + m + m
asked_long cs n m =
    omega (
      arith,
      length-append (exchanges_in cs) (questions Firings n ++ (questions Fill m ++ questions Front m)),
      length-append (questions Firings n) (questions Fill m ++ questions Front m),
      length-append (questions Fill m) (questions Front m),
      calls_long cs,
      questions_long Firings (λ k. refl) n,
      questions_long Fill (λ k. refl) m,
      questions_long Front (λ k. refl) m,
    )

-- a trial whose answer is known
module _ {C Item State : Type 0} (rules : C → Rules Item State) (held : C → ℕ → State) (n : Netlist) (a b : ℕ) (caps : List ℕ) (m : ℕ) (s t : List ℕ) (cores left : C) (xs ys : List (Exchange Item)) (before table : List Item) (x : Result ℕ Refusal)
    (h : Tried rules held n a b caps m s t cores left xs ys before table x) where
  pub found_of : (k : ℕ) → x ≡ Ok k → Found rules held n a b caps m s t k cores left xs ys before table
  found_of k is = subst (λ (y : Result ℕ Refusal). Tried rules held n a b caps m s t cores left xs ys before table y) is h

  pub refuses_of : (why : Refusal) → x ≡ Err why → Refuses n a b caps m s t why cores left xs ys before table
  refuses_of why is = subst (λ (y : Result ℕ Refusal). Tried rules held n a b caps m s t cores left xs ys before table y) is h

module _ (m n : Netlist) (r : Request) (caps s before : List ℕ) (same : m ≡ n) (all : caps ≡ replicate (channels n) r.cap) (own : s ≡ before) (cs : List Command) where
  pub traced : (e : ℕ) → e ≡ channels n → (k : ℕ) (t : List ℕ) (start left : SumSet) (xs ys zs : List (Exchange ℕ)) (table a b d : List ℕ) (ms : List Module)
      → ((v : ℕ) → 1 ≤ v → v ≤ 64 → sum_held start v ≡ 0)
      → Found (λ _. sum_rules) sum_held m r.target.0 r.target.1 caps r.allowance s t k start left xs ys (replicate 3264 0) table
      → xs ≡ asked_for cs (modules n) (channels n) → ms ≡ vec_items n.modules → zs ≡ ys
      → a ≡ added_line k → b ≡ a ++ numbered (deepened_line before) 1 t → d ≡ b ++ trace_lines cs ms e zs → TraceText r cs n before d
  traced e count k t start left xs ys zs table a b d ms fresh h asked lends shown first second last =
      inl (record {
        added = k;
        found = t;
        start = start;
        fresh = fresh;
        left = left;
        answers = ys;
        table = table;
        played = subst₂ (λ (o : List ℕ) (qs : List (Exchange ℕ)). Found (λ _. sum_rules) sum_held n r.target.0 r.target.1 (replicate (channels n) r.cap) r.allowance o t k start left qs ys (replicate 3264 0) table) own asked
            (subst₂ (λ (i : Netlist) (c : List ℕ). Found (λ _. sum_rules) sum_held i r.target.0 r.target.1 c r.allowance s t k start left xs ys (replicate 3264 0) table) same all h);
        is = rw (last, second, first, lends, shown, count) (append_assoc (added_line k) (numbered (deepened_line before) 1 t) (trace_lines cs (vec_items n.modules) (channels n) ys));
      })

  pub trial_refused : (t : List ℕ) (x : Refusal) (told : Result (String Global) ReadError) → SizeAnswer m r.target.0 r.target.1 caps r.allowance s t (Err x)
      → IsErrAnd told (λ y. y ≡ Refused x) → OnPrinted (TraceText r cs n before) told
  trial_refused t x told h e = handed_on (OnPrinted (TraceText r cs n before)) told (Refused x) e (inr (inr (x, (refl, (asked m n r caps s before same all own t (Err x) h).1), refl)))
