-- What a request for a sizing answered, as it is printed.
use Rattle.std.proofs.Common.{◌≡◌, ℕ, ◌≤◌, List, ◌++◌, take, replicate, None, Ok, Err, Result, String, Global, IsErrAnd, refl, ◌∙◌, ap, subst, subst₂, inl, inr, append_assoc}
use Rattle.std.proofs.lemmas.List.{take-replicate}
use Rattle.netlist.specs.declared.netlist.Netlist.{Netlist}
use Rattle.netlist.specs.declared.reading.ReadError.{ReadError}
use Rattle.netlist.specs.declared.reading.ReadError.TheVariants.{Refused}
use Rattle.netlist.specs.declared.refusal.Refusal.{Refusal}
use Rattle.netlist.specs.Holds.{channels}
use Rattle.rating.specs.Sizings.{sizing_fault}
use Rattle.sizing.specs.Answers.{SizeAnswer}
use Rattle.sizing.proofs.Accepting.{request_low, request_ready}
use Rattle.sizing.proofs.Readying.{ready_between}
use Rattle.report.specs.declared.request.Request.{Request}
use Rattle.report.specs.Files.{OnPrinted}
use Rattle.report.specs.Lines.{numbered}
use Rattle.report.specs.Sizes.{RequestText, added_line, deepened_line}
use Rattle.report.specs.Texts.{RatedText}
use Rattle.report.proofs.Printed.{handed_on}

-- the sizing that was found is one: it was a candidate
pub found_sized : (n : Netlist) (a b : ℕ) (caps : List ℕ) (m : ℕ) (s t : List ℕ) (k : ℕ) → SizeAnswer n a b caps m s t (Ok k) → sizing_fault (channels n) t ≡ None
found_sized n a b caps m s t k h =
    (ready_between n caps s t (request_low (channels n) a b caps m s h.0) (request_ready (channels n) a b caps m s h.0 n refl) h.1.candidate.above h.1.candidate.under).sized

-- the caps that the code lends are one cap for each channel
pub caps_are : (e k cap : ℕ) → e ≡ k → e ≤ 192 → take e (replicate 192 cap) ≡ replicate k cap
caps_are e k cap count few = take-replicate e 192 cap few ∙ ap (λ (i : ℕ). replicate i cap) count

module _ (m n : Netlist) (r : Request) (caps s before : List ℕ) (same : m ≡ n) (all : caps ≡ replicate (channels n) r.cap) (own : s ≡ before) where
  pub asked : (t : List ℕ) (x : Result ℕ Refusal)
      → SizeAnswer m r.target.0 r.target.1 caps r.allowance s t x → SizeAnswer n r.target.0 r.target.1 (replicate (channels n) r.cap) r.allowance before t x
  asked t x h =
      subst (λ (o : List ℕ). SizeAnswer n r.target.0 r.target.1 (replicate (channels n) r.cap) r.allowance o t x) own
      (subst₂ (λ (i : Netlist) (c : List ℕ). SizeAnswer i r.target.0 r.target.1 c r.allowance s t x) same all h)

  -- where it was refused, the table is as it was
  pub size_refused : (t : List ℕ) (x : Refusal) (told : Result (String Global) ReadError) → SizeAnswer m r.target.0 r.target.1 caps r.allowance s t (Err x)
      → IsErrAnd told (λ y. y ≡ Refused x) → OnPrinted (RequestText r n before) told
  size_refused t x told h e = handed_on (OnPrinted (RequestText r n before)) told (Refused x) e (inr (inr (x, (refl, (asked t (Err x) h).1), refl)))

  pub sized_text : (t : List ℕ) (k : ℕ) (a b d rating pushed : List ℕ)
      → SizeAnswer m r.target.0 r.target.1 caps r.allowance s t (Ok k)
      → RatedText m t rating → a ≡ added_line k → b ≡ a ++ numbered (deepened_line before) 1 t → pushed ≡ rating → d ≡ b ++ pushed → RequestText r n before d
  sized_text t k a b d rating pushed h rated first second third last =
      inl (record {
        added = k;
        sizing' = t;
        rating = rating;
        sized = asked t (Ok k) h;
        rated = subst (λ (i : Netlist). RatedText i t rating) same rated;
        is = rw (last, third, second, first) (append_assoc (added_line k) (numbered (deepened_line before) 1 t) rating);
      })
