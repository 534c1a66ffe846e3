-- What a reader answers rests on the bytes that it has read. Each reader keeps one rule: it says that the bytes end too early until
-- enough of them settle its answer, whatever follows them.
use Rattle.std.proofs.Common.{◌≡◌, ℕ, zero, suc, ◌+◌, ◌*◌, ◌<◌, ◌≤◌, Bool, true, false, cond, ◌||◌, eqb, List, [], ◌∷◌, ◌++◌, length, take, Ok, Err, Result, refl, append_assoc, arith, length-append}
use native.Mathlib.Numerals.{unary_clauses}
use Rattle.std.specs.Int.{is_in_range}
use Rattle.netlist.specs.declared.flaw.Flaw.{Flaw}
use Rattle.netlist.specs.declared.refusal.Cause.{Cause}
use Rattle.netlist.specs.declared.refusal.Cause.TheVariants.{EndsEarly, CountOutOfRange, ValueOutOfRange, ByteAfterEnd}
use Rattle.netlist.specs.Faults.{Reading, before, byte, channel, channels, contents, count, entry, flaw, join, kind_of, modules, name, nothing, one_channel, one_module, one_size, sizes, then}
use Rattle.netlist.specs.Layout.{Contents}

-- What takes the bytes that are left of a file.
abbrev pub Reader : Type 0 → Type 0
Reader B = List ℕ → Result B Flaw

-- Bytes are due where there are none.
abbrev pub early : Flaw
early = flaw EndsEarly []

-- Cut below n bytes, these end too early.
abbrev pub Short : {B : Type 0} → Reader B → List ℕ → ℕ → Type 0
Short g bytes n = (k : ℕ) → k < n → g (take k bytes) ≡ Err early

-- The front settles the answer as a function of what follows, and no shorter front does.
pub record Settles {B : Type 0} (g : Reader B) (front : List ℕ) (answer : Reader B) : Type 0 where
  pub short : Short g front (length front)
  pub stays : (more : List ℕ) → g (front ++ more) ≡ answer more

-- What is judged by the last bytes of such a front: a count by two, a value by one.
pub data Judged : Type 0 where
  a_count : Judged
  a_value : Judged

-- Its cause and its bytes.
abbrev pub cause_of : Judged → Cause
cause_of a_count = CountOutOfRange
cause_of a_value = ValueOutOfRange

abbrev pub width : Judged → ℕ
width a_count = 2
width a_value = 1

-- Its fault, as a function of what follows.
abbrev pub refuse : {B : Type 0} → Judged → Reader B
refuse j more = Err (record { cause = cause_of j; left = length more + width j })

-- The rule, of a reader that gives an A: all of the bytes are too few, or a front of them settles a fault or what is given.
pub data Sees {A B : Type 0} (give : A → Reader B) (g : Reader B) (bytes : List ℕ) : Type 0 where
  starves : Short g bytes (suc (length bytes)) → Sees give g bytes
  refuses : (j : Judged) (front rest : List ℕ) → bytes ≡ front ++ rest → width j ≤ length front → Settles g front (refuse j) → Sees give g bytes
  gives : (a : A) (front rest : List ℕ) → bytes ≡ front ++ rest → Settles g front (give a) → Sees give g bytes

-- A part of a file is given with the bytes after it.
abbrev pub hand : {A : Type 0} → A → Reader (A × List ℕ)
hand a rest = Ok (a, rest)

-- The whole file is given if no byte comes after it.
abbrev pub close : Contents → Reader Contents
close c [] = Ok c
close c (b ∷ rest) = Err (flaw ByteAfterEnd (b ∷ rest))

-- What reads nothing gives at once.
at_once : {A B : Type 0} (give : A → Reader B) (g : Reader B) (a : A) (bytes : List ℕ) → ((more : List ℕ) → g more ≡ give a more) → Sees give g bytes
at_once give g a bytes same = gives a [] bytes refl (record { short = λ k l. absurd (omega arith); stays = same })

-- A test of the front gives or refuses.
judged : (g : Reader (ℕ × List ℕ)) (test : Bool) (j : Judged) (a : ℕ) (front rest : List ℕ) → width j ≤ length front → Short g front (length front)
    → ((more : List ℕ) → g (front ++ more) ≡ cond test (hand a more) (refuse j more)) → Sees hand g (front ++ rest)
judged g true j a front rest w short stays = gives a front rest refl (record { short = short; stays = stays })
judged g false j a front rest w short stays = refuses j front rest refl w (record { short = short; stays = stays })

-- With no byte, a byte is due.
byte_short : (low high : ℕ) (bytes : List ℕ) → Short (byte low high) bytes 1
byte_short low high bytes zero l = refl
byte_short low high bytes (suc k) l = absurd (omega arith)

-- A byte keeps the rule.
byte_sees : (low high : ℕ) (bytes : List ℕ) → Sees hand (byte low high) bytes
byte_sees low high [] = starves (byte_short low high [])
byte_sees low high (b ∷ rest) =
    judged (byte low high) (is_in_range low high b) a_value b (b ∷ []) rest (omega arith) (byte_short low high (b ∷ [])) (λ more. simp unary_clauses refl)

-- With fewer than two bytes, a count is due.
count_short : (allowed : ℕ → Bool) (bytes : List ℕ) → Short (count allowed) bytes 2
count_short allowed bytes zero l = refl
count_short allowed [] (suc k) l = refl
count_short allowed (b ∷ bytes) (suc zero) l = refl
count_short allowed (b ∷ bytes) (suc (suc k)) l = absurd (omega arith)

-- A count keeps the rule.
count_sees : (allowed : ℕ → Bool) (bytes : List ℕ) → Sees hand (count allowed) bytes
count_sees allowed [] = starves (λ k l. count_short allowed [] k (omega arith))
count_sees allowed (b ∷ []) = starves (count_short allowed (b ∷ []))
count_sees allowed (b ∷ d ∷ rest) =
    judged (count allowed) (allowed (256 * b + d)) a_count (256 * b + d) (b ∷ d ∷ []) rest (omega arith) (count_short allowed (b ∷ d ∷ [])) (λ more. simp unary_clauses refl)

-- A cut of two lists one after the other is a cut of the first, or all of it with a cut of the second.
cut_of_two : {B : Type 0} (g : Reader B) (front rest : List ℕ) (k : ℕ) → (k < length front → g (take k front) ≡ Err early)
    → ((i : ℕ) → k ≡ length front + i → g (front ++ take i rest) ≡ Err early) → g (take k (front ++ rest)) ≡ Err early
cut_of_two g [] rest k one two = two k (omega arith)
cut_of_two g (b ∷ front) rest zero one two = one (omega arith)
cut_of_two g (b ∷ front) rest (suc k) one two =
    cut_of_two (λ bytes. g (b ∷ bytes)) front rest k (λ l. one (omega arith)) (λ i e. two i (omega arith))

-- What is too little for the next reader is too little for both.
short_after : {A B : Type 0} (p : List ℕ → Reading A) (f : A → Reader B) (a : A) (front rest : List ℕ) (n : ℕ) → Settles p front (hand a)
    → Short (f a) rest n → Short (λ bytes. then (p bytes) f) (front ++ rest) (length front + n)
short_after p f a front rest n s t k l =
    cut_of_two (λ bytes. then (p bytes) f) front rest k (λ below. rw (s.short k below) refl) (λ i e. rw (s.stays (take i rest)) (t i (omega arith)))

-- What settles each of two readers settles both.
settles_after : {A B : Type 0} (p : List ℕ → Reading A) (f : A → Reader B) (a : A) (front next : List ℕ) (answer : Reader B) → Settles p front (hand a)
    → Settles (f a) next answer → Settles (λ bytes. then (p bytes) f) (front ++ next) answer
settles_after p f a front next answer s t =
    record {
      short = λ k l. short_after p f a front next (length next) s t.short k (omega (arith, length-append front next));
      stays = λ more. rw (append_assoc, s.stays (next ++ more)) (t.stays more);
    }

-- A reader that goes on after what the first gave keeps the rule.
sees_after : {A B C : Type 0} {give : C → Reader B} (p : List ℕ → Reading A) (f : A → Reader B) (a : A) (front rest : List ℕ) → Settles p front (hand a)
    → Sees give (f a) rest → Sees give (λ bytes. then (p bytes) f) (front ++ rest)
sees_after p f a front rest s (starves t) = starves (λ k l. short_after p f a front rest (suc (length rest)) s t k (omega (arith, length-append front rest)))
sees_after p f a front rest s (refuses j next last e w t) =
    refuses j (front ++ next) last (rw (e, append_assoc) refl) (omega (arith, length-append front next)) (settles_after p f a front next _ s t)
sees_after p f a front rest s (gives c next last e t) =
    gives c (front ++ next) last (rw (e, append_assoc) refl) (settles_after p f a front next _ s t)

-- What settles a reader settles what is made of its answer by a function that keeps each flaw.
settles_through : {B D : Type 0} (h : Result B Flaw → Result D Flaw) (g : Reader B) (front : List ℕ) (answer : Reader B) (next : Reader D) → ((e : Flaw) → h (Err e) ≡ Err e)
    → ((more : List ℕ) → h (answer more) ≡ next more) → Settles g front answer → Settles (λ bytes. h (g bytes)) front next
settles_through h g front answer next keeps same s =
    record { short = λ k l. rw (s.short k l) (keeps early); stays = λ more. rw (s.stays more) (same more) }

-- Such a function keeps the rule, if it does at what is given.
sees_through : {A B C D : Type 0} {give : A → Reader B} {pass : C → Reader D} (h : Result B Flaw → Result D Flaw) (g : Reader B) (bytes : List ℕ)
    → ((e : Flaw) → h (Err e) ≡ Err e)
    → ((a : A) (front rest : List ℕ) → bytes ≡ front ++ rest → Settles g front (give a) → Sees pass (λ bytes. h (g bytes)) bytes)
    → Sees give g bytes → Sees pass (λ bytes. h (g bytes)) bytes
sees_through h g bytes keeps given (starves s) = starves (λ k l. rw (s k l) (keeps early))
sees_through h g bytes keeps given (refuses j front rest e w s) =
    refuses j front rest e w (settles_through h g front (refuse j) (refuse j) keeps (λ more. keeps _) s)
sees_through h g bytes keeps given (gives a front rest e s) = given a front rest e s

-- Two readers one after the other keep the rule.
then_sees : {A B C : Type 0} {give : C → Reader B} (p : List ℕ → Reading A) (f : A → Reader B) (bytes : List ℕ) → Sees hand p bytes
    → ((a : A) (rest : List ℕ) → Sees give (f a) rest) → Sees give (λ bytes. then (p bytes) f) bytes
then_sees p f bytes first next =
    sees_through (λ r. then r f) p bytes (λ e. refl) (λ a front rest e s. rw e (sees_after p f a front rest s (next a rest))) first

-- What was read before comes in front of the whole file.
close_before : (a c : Contents) (more : List ℕ) → before a (close c more) ≡ close (join a c) more
close_before a c [] = refl
close_before a c (b ∷ more) = refl

-- So it keeps the rule.
before_sees : (a : Contents) (g : Reader Contents) (bytes : List ℕ) → Sees close g bytes → Sees close (λ bytes. before a (g bytes)) bytes
before_sees a g bytes sees =
    sees_through (before a) g bytes (λ e. refl)
    (λ c front rest e s. gives (join a c) front rest e (settles_through (before a) g front (close c) (close (join a c)) (λ e. refl) (close_before a c) s)) sees

-- Each reader of a file keeps the rule.
name_sees : (n : ℕ) (bytes : List ℕ) → Sees hand (name n) bytes
name_sees zero bytes = at_once hand _ [] bytes (λ more. refl)
name_sees (suc n) bytes =
    then_sees (byte 33 126) _ bytes (byte_sees 33 126 bytes) (λ b rest. then_sees (name n) _ rest (name_sees n rest) (λ more rest. at_once hand _ (b ∷ more) rest (λ after. refl)))

entry_sees : (bytes : List ℕ) → Sees hand entry bytes
entry_sees bytes =
    then_sees (byte 0 1) _ bytes (byte_sees 0 1 bytes) (λ k rest.
    then_sees (byte 1 16) _ rest (byte_sees 1 16 rest) (λ n rest.
    then_sees (name n) _ rest (name_sees n rest) (λ text rest. at_once hand _ (record { kind = kind_of k; name = text }) rest (λ more. refl))))

channel_sees : (n : ℕ) (bytes : List ℕ) → Sees hand (channel n) bytes
channel_sees n bytes =
    then_sees (byte 1 n) _ bytes (byte_sees 1 n bytes) (λ a rest.
    then_sees (byte 1 n) _ rest (byte_sees 1 n rest) (λ b rest. at_once hand _ (record { source = a; sink = b }) rest (λ more. refl)))

-- After the last size the file must end.
end_closes : (bytes : List ℕ) → sizes 0 bytes ≡ close nothing bytes
end_closes [] = refl
end_closes (b ∷ bytes) = refl

sizes_sees : (k : ℕ) (bytes : List ℕ) → Sees close (sizes k) bytes
sizes_sees zero bytes = at_once close _ nothing bytes end_closes
sizes_sees (suc k) bytes = then_sees (byte 1 16) _ bytes (byte_sees 1 16 bytes) (λ s rest. before_sees (one_size s) (sizes k) rest (sizes_sees k rest))

channels_sees : (n e k : ℕ) (bytes : List ℕ) → Sees close (channels n e k) bytes
channels_sees n e zero bytes = then_sees (count (λ s. eqb s 0 || eqb s e)) _ bytes (count_sees (λ s. eqb s 0 || eqb s e) bytes) sizes_sees
channels_sees n e (suc k) bytes =
    then_sees (channel n) _ bytes (channel_sees n bytes) (λ c rest. before_sees (one_channel c) (channels n e k) rest (channels_sees n e k rest))

modules_sees : (n k : ℕ) (bytes : List ℕ) → Sees close (modules n k) bytes
modules_sees n zero bytes = then_sees (count (is_in_range 0 192)) _ bytes (count_sees (is_in_range 0 192) bytes) (λ e rest. channels_sees n e e rest)
modules_sees n (suc k) bytes =
    then_sees entry _ bytes (entry_sees bytes) (λ m rest. before_sees (one_module m) (modules n k) rest (modules_sees n k rest))

pub contents_sees : (bytes : List ℕ) → Sees close contents bytes
contents_sees bytes = then_sees (count (is_in_range 1 64)) _ bytes (count_sees (is_in_range 1 64) bytes) (λ n rest. modules_sees n n rest)
