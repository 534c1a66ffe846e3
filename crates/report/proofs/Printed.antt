-- What is printed of a netlist, and of a file.
use Rattle.std.proofs.Common.{◌≡◌, ℕ, ◌-◌, ◌<◌, ◌≤◌, List, [], map, length, get_or, take, ℤ, IfOk, None, Ok, Err, vec_items, string_bytes, Result, String, Global, MatchResult, IsErrAnd, sym, refl, ap, ◌∙◌, subst, inl, inr, ⊎_elim, arith, le-leb}
use Rattle.std.specs.declared.alloc.AllocError.{AllocError}
use native.Mathlib.Nat.{sub-zero}
use Rattle.std.proofs.ByRecursion.{All-get_or}
use Rattle.std.proofs.lemmas.List.{get_or_past, get_or-take, length-take-le}
use Rattle.std.specs.Int.{IsInRange}
use Rattle.checking.specs.Verdicts as verdicts
use Rattle.netlist.specs.declared.netlist.Module.{Module}
use Rattle.netlist.specs.declared.netlist.Netlist.{Netlist}
use Rattle.netlist.specs.declared.reading.ReadError.{ReadError}
use Rattle.netlist.specs.declared.reading.ReadError.TheVariants.{NoMemory, Refused}
use Rattle.netlist.specs.declared.refusal.Refusal.{Refusal}
use Rattle.netlist.specs.Faults.{verdict}
use Rattle.netlist.specs.Holds.{Filled, Holds, channels, entry_of, whole_verdict, with_room}
use Rattle.netlist.specs.Layout.{Contents, Valid}
use Rattle.netlist.proofs.Exact.{says_of}
use Rattle.rating.specs.declared.rating.Rating.{Rating}
use Rattle.rating.specs.Ratings.{Accepted}
use Rattle.rating.specs.Sizings.{sizing_fault}
use Rattle.rating.proofs.Sizes.{sizing_good}
use Rattle.report.specs.declared.file.NetlistFile.{NetlistFile}
use Rattle.report.specs.Files.{PrintedOf, ReadAs, OnPrinted, sizes_of}
use Rattle.report.specs.Lines.{rating_lines, refused}
use Rattle.report.specs.Texts.{CheckText, FileText, Prints, RatedText}

-- what is promised of a value that was made, from what is known of it
pub made_of : {X Y : Type 0} (r : Result X Y) (P Q : X → Type 0) → IfOk r P → ((x : X) → P x → Q x) → IfOk r Q
made_of (Ok x) P Q h f = f x h
made_of (Err y) P Q h f = tt

-- what holds of an error holds of the answer that hands it on
pub handed_on : {X Y : Type 0} (P : Result X Y → Type 0) (r : Result X Y) (e : Y) → IsErrAnd r (λ x. x ≡ e) → P (Err e) → P r
handed_on P (Ok x) e h p = absurd h
handed_on P (Err x) e h p = rw h p

-- the verdict on a file is that on reading it into a table with room for the channels of every netlist
roomy : (room : ℕ) (v : Result Contents Refusal) → ((c : Contents) → v ≡ Ok c → length c.channels ≤ room) → with_room room v ≡ v
roomy room (Err x) h = refl
roomy room (Ok c) h = rw (le-leb (length c.channels) room (h c refl)) refl

same_verdict : (file : List ℕ) (room : ℕ) → 192 ≤ room → whole_verdict file room ≡ verdict file
same_verdict file room l = roomy room (verdict file) (λ c h. omega (arith, (says_of file c h).valid.few))

-- a file that was not read has that fault
pub unread : (file : List ℕ) (n m : Netlist) (was is : List ℕ) (e : ReadError) → 192 ≤ length was → Filled file (Err e) n m was is → ReadAs (verdict file) (Err e)
unread file n m was is (Refused x) l f = sym (same_verdict file (length was) l) ∙ f.0
unread file n m was is NoMemory l f = tt

-- each queue size of a valid file is from 1 to 16
size_in : (c : Contents) → Valid c → (k : ℕ) → k < length c.channels → IsInRange 1 16 (get_or c.sizes k 1)
size_in c v k l =
    ⊎_elim (λ none. rw (get_or_past c.sizes k 1 (omega arith)) (omega arith, omega arith))
    (λ each. All-get_or (IsInRange 1 16) c.sizes k 1 (omega arith) v.sizes) v.sized

module _ (file : List ℕ) (n m : Netlist) (was is : List ℕ) (room : 192 ≤ length was) (same : length is ≡ length was) (f : Filled file (Ok tt) n m was is) where
  contents : Contents
  contents = f.0

  -- the channels that were read are those of the file
  counted : channels m ≡ length contents.channels
  unfolding contents
  counted = m.channels.ok.0 ∙ ap length f.3.channels

  fits : channels m ≤ length is
  unfolding contents
  fits = omega (arith, counted, f.2.valid.few)

  -- the front of the table is a sizing of the netlist
  pub sized : sizing_fault (channels m) (take (channels m) is) ≡ None
  unfolding contents
  sized =
      sizing_good (channels m) (take (channels m) is) (length-take-le (channels m) is fits)
      (λ i l. let here : i < channels m = omega (arith, length-take-le (channels m) is fits) in
      rw (get_or-take (channels m) is i 0 here, f.3.sizes i (omega (arith, counted))) (size_in contents f.2.valid i (omega (arith, counted))))

  -- and with the netlist it is what the file says
  pub read_as : (c : Contents) × (verdict file ≡ Ok c) × Holds c m [] (take (channels m) is) × (length (take (channels m) is) ≡ channels m)
  unfolding contents
  read_as =
      let held : Holds contents m [] (take (channels m) is) = record {
        modules = f.3.modules;
        channels = f.3.channels;
        sizes = λ k l. let here : k < channels m = omega (arith, counted) in get_or-take (channels m) is k 0 here ∙ f.3.sizes k l;
        behind = λ k l. get_or_past (take (channels m) is) k 0 (omega (arith, counted, length-take-le (channels m) is fits));
      } in
      (contents, sym (same_verdict file (length was) room) ∙ f.1, held, length-take-le (channels m) is fits)

-- a refusal of the check is told
pub check_told : (P : List ℕ → Type 0) (n m : Netlist) (r : Result (String Global) ReadError) (x : Refusal) → ((text : List ℕ) → CheckText n text → P text) → m ≡ n → verdicts.Refused m x
    → IsErrAnd r (λ y. y ≡ Refused x) → OnPrinted P r
check_told P n m r x says same h e = handed_on (OnPrinted P) r (Refused x) e (says (refused x) (x, subst (λ (i : Netlist). verdicts.Refused i x) same h, refl))

-- what is printed of a file is what is told of its netlist and its sizing
printed : (Text : Netlist → List ℕ → List ℕ → Type 0) (file : List ℕ) (read : Result NetlistFile ReadError) (told : Result (String Global) ReadError) (text : List ℕ) (Post : NetlistFile → Type 0)
    → ReadAs (verdict file) read → MatchResult read Post (λ e. told ≡ Err e) → ((f : NetlistFile) → Post f → OnPrinted (Text f.netlist (sizes_of f)) told)
    → PrintedOf told text → Prints Text file text
printed Text file (Ok f) (Ok s) text Post r p says t = subst (λ (v : Result Contents Refusal). FileText Text v text) (sym r.1) (f.netlist, sizes_of f, r.2, r.3, rw t (says f p))
printed Text file (Ok f) (Err (Refused x)) text Post r p says t = subst (λ (v : Result Contents Refusal). FileText Text v text) (sym r.1) (f.netlist, sizes_of f, r.2, r.3, rw t (says f p))
printed Text file (Ok f) (Err NoMemory) text Post r p says t = absurd t
printed Text file (Err (Refused x)) told text Post r p says t = subst (λ (v : Result Contents Refusal). FileText Text v text) (sym r) (rw p at t)
printed Text file (Err NoMemory) told text Post r p says t = absurd (rw p at t)

-- and so is the text that was made, if there was memory for it
pub printed_if : (Text : Netlist → List ℕ → List ℕ → Type 0) (file : List ℕ) (read : Result NetlistFile ReadError) (told : Result (String Global) ReadError) (made : Result (String Global) AllocError) (Post : NetlistFile → Type 0)
    → ReadAs (verdict file) read → MatchResult read Post (λ e. told ≡ Err e) → ((f : NetlistFile) → Post f → OnPrinted (Text f.netlist (sizes_of f)) told)
    → IfOk made (λ s. PrintedOf told (string_bytes s)) → IfOk made (λ s. Prints Text file (string_bytes s))
printed_if Text file read told made Post r p says h = made_of made _ _ h (λ s t. printed Text file read told (string_bytes s) Post r p says t)

-- the lines of an accepted rating
rated_own : (m : Netlist) (sizing cycle cycle' : List ℕ) (zs zs' : List ℤ) (r : Rating) (text : List ℕ) → Accepted m sizing cycle cycle' zs zs' r
    → text ≡ rating_lines r.rate.0 r.rate.1 (take r.length cycle') (map entry_of (vec_items m.modules)) zs' → RatedText m sizing text
rated_own m sizing cycle cycle' zs zs' r text a t =
    record {
      p = r.rate.0;
      l = r.rate.1;
      places = take r.length cycle';
      potentials = zs';
      is_rate = a.lists.is_rate;
      shown = ⊎_elim (λ one. inl (one.0, rw one.1 refl)) (λ some. inr (some.0, (some.2.walk, some.2.shown, some.2.numbers))) a.lists.shown;
      potential = a.lists.potential;
      is = t;
    }

pub rated_text : (n : Netlist) (sizing cycle cycle' : List ℕ) (zs zs' : List ℤ) (r : Rating) (k : ℕ) (rate : ℕ × ℕ) (lent : Netlist) (ms : List Module) (text : List ℕ)
    → Accepted n sizing cycle cycle' zs zs' r → k ≡ r.length → rate ≡ r.rate → lent ≡ r.netlist.now → ms ≡ vec_items lent.modules
    → text ≡ rating_lines rate.0 rate.1 (take (k - 0) cycle') (map entry_of ms) zs' → RatedText n sizing text
rated_text n sizing cycle cycle' zs zs' r k rate lent ms text a long is same list t =
    let held = list ∙ ap (λ (x : Netlist). vec_items x.modules) (same ∙ a.netlist) in
    rated_own n sizing cycle cycle' zs zs' r text a (rw (is, long, sub-zero r.length, held) at t)
