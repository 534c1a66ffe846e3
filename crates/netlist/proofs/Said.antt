-- What a file that is read without a flaw holds is valid, and the file is its layout.
use Rattle.std.proofs.Common.{◌≡◌, ℕ, zero, suc, ◌/◌, ◌%◌, ◌≤◌, true, ◌||◌, eqb, ◌⊎◌, List, [], ◌∷◌, ◌++◌, length, Ok, Err, Result, refl, ap, ◌∙◌, append_assoc, arith}
use Rattle.std.proofs.lemmas.Bool.Decides.{nat_tests}
use Rattle.std.specs.Int.{IsInRange, is_in_range}
use Rattle.std.specs.List.{AllByRecursion}
use Rattle.netlist.specs.declared.flaw.Flaw.{Flaw}
use Rattle.netlist.specs.declared.channel.Channel.{Channel}
use Rattle.netlist.specs.Faults.{one_channel, one_module, one_size, before, byte, channel, channels, contents, count, entry, join, kind_of, modules, name, nothing, sizes}
use Rattle.netlist.specs.Layout.{Contents, Entry, Says, channel_bytes, kind_byte, module_bytes, two}
use Rattle.netlist.specs.Limits.{Named}
use Rattle.netlist.proofs.Sound.{CountOk, NameOk, byte_ok, channel_ok, count_ok, name_ok, ok_parts, then_ok, within_in}

before_ok : (a : Contents) (x : Result Contents Flaw) (c : Contents) → before a x ≡ Ok c → (d : Contents) × (x ≡ Ok d) × (join a d ≡ c)
before_ok a (Ok d) c h = (d, refl, cc)
before_ok a (Err e) c h = cc

-- No count of a file is above 192, so its high byte is 0.
counted_laid : (bytes : List ℕ) (v : ℕ) (rest : List ℕ) → v ≤ 192 → CountOk bytes v rest → bytes ≡ two v ++ rest
counted_laid bytes v rest l k =
    let a : k.high ≡ v / 256 = omega (arith, k.is) in
    let b : k.low ≡ v % 256 = omega (arith, k.is) in
    k.laid ∙ rw (a, b) refl

record SizesSaid (k : ℕ) (bytes : List ℕ) (c : Contents) : Type 0 where
  modules : c.modules ≡ []
  channels : c.channels ≡ []
  long : length c.sizes ≡ k
  each : AllByRecursion (IsInRange 1 16) c.sizes
  laid : bytes ≡ c.sizes

sizes_more : (k s : ℕ) (bytes rest : List ℕ) (d c : Contents) → IsInRange 1 16 s → bytes ≡ s ∷ rest → SizesSaid k rest d → join (one_size s) d ≡ c → SizesSaid (suc k) bytes c
sizes_more k s bytes rest d c h l i e =
    rw (← e) (record { modules = i.modules; channels = i.channels; long = ap suc i.long; each = (h, i.each); laid = l ∙ ap (λ (y : List ℕ). s ∷ y) i.laid })

sizes_said : (k : ℕ) (bytes : List ℕ) (c : Contents) → sizes k bytes ≡ Ok c → SizesSaid k bytes c
sizes_said zero [] c h = let e : nothing ≡ c = cc in rw (← e) (record { modules = refl; channels = refl; long = refl; each = tt; laid = refl })
sizes_said zero (b ∷ bytes) c h = cc
sizes_said (suc k) bytes c h =
    let p = then_ok (byte 1 16 bytes) (λ s rest. before (one_size s) (sizes k rest)) c h in
    let q = before_ok (one_size p.0) (sizes k p.1) c p.3 in
    let b = byte_ok 1 16 bytes p.0 p.1 p.2 in
    sizes_more k p.0 bytes p.1 q.0 c b.0 b.1 (sizes_said k p.1 q.0 q.1) q.2

abbrev Ends : ℕ → List Channel → Type 0
Ends n cs = AllByRecursion (λ d. IsInRange 1 n d.source × IsInRange 1 n d.sink) cs

abbrev sizing : List ℕ → List ℕ
sizing ss = two (length ss) ++ ss

record ChannelsSaid (n e k : ℕ) (bytes : List ℕ) (c : Contents) : Type 0 where
  modules : c.modules ≡ []
  long : length c.channels ≡ k
  ends : Ends n c.channels
  sized : (length c.sizes ≡ 0) ⊎ (length c.sizes ≡ e)
  each : AllByRecursion (IsInRange 1 16) c.sizes
  laid : bytes ≡ channel_bytes c.channels ++ sizing c.sizes

sized_by : (v e : ℕ) → (eqb v 0 || eqb v e) ≡ true → (v ≡ 0) ⊎ (v ≡ e)
sized_by v e h = grind (arith, nat_tests)

sized_few : (v e : ℕ) → e ≤ 192 → (v ≡ 0) ⊎ (v ≡ e) → v ≤ 192
sized_few v e l h = omega (arith, h)

channels_none : (n e v : ℕ) (bytes rest : List ℕ) (c : Contents) → e ≤ 192 → (eqb v 0 || eqb v e) ≡ true → CountOk bytes v rest → SizesSaid v rest c → ChannelsSaid n e 0 bytes c
channels_none n e v bytes rest c l h k s =
    record {
      modules = s.modules;
      long = rw s.channels refl;
      ends = rw s.channels tt;
      sized = rw s.long (sized_by v e h);
      each = s.each;
      laid = rw (s.channels, s.long) (counted_laid bytes v rest (sized_few v e l (sized_by v e h)) k ∙ ap (λ (y : List ℕ). two v ++ y) s.laid);
    }

channels_more : (n e k : ℕ) (bytes rest : List ℕ) (m : Channel) (d c : Contents) → IsInRange 1 n m.source → IsInRange 1 n m.sink → bytes ≡ m.source ∷ m.sink ∷ rest
    → ChannelsSaid n e k rest d → join (one_channel m) d ≡ c → ChannelsSaid n e (suc k) bytes c
channels_more n e k bytes rest m d c a b l i j =
    rw (← j) (record {
      modules = i.modules;
      long = ap suc i.long;
      ends = ((a, b), i.ends);
      sized = i.sized;
      each = i.each;
      laid = l ∙ ap (λ (y : List ℕ). m.source ∷ m.sink ∷ y) i.laid;
    })

channels_said : (n e k : ℕ) (bytes : List ℕ) (c : Contents) → e ≤ 192 → channels n e k bytes ≡ Ok c → ChannelsSaid n e k bytes c
channels_said n e zero bytes c l h =
    let p = then_ok (count (λ s. eqb s 0 || eqb s e) bytes) (λ s rest. sizes s rest) c h in
    let t = count_ok (λ s. eqb s 0 || eqb s e) bytes p.0 p.1 p.2 in
    channels_none n e p.0 bytes p.1 c l t.0 t.1 (sizes_said p.0 p.1 c p.3)
channels_said n e (suc k) bytes c l h =
    let p = then_ok (channel n bytes) (λ m rest. before (one_channel m) (channels n e k rest)) c h in
    let q = before_ok (one_channel p.0) (channels n e k p.1) c p.3 in
    let o = channel_ok n bytes p.0 p.1 p.2 in
    channels_more n e k bytes p.1 p.0 q.0 c o.source o.sink o.laid (channels_said n e k p.1 q.0 l q.1) q.2

record EntrySaid (bytes : List ℕ) (m : Entry) (rest : List ℕ) : Type 0 where
  named : Named m.name
  laid : bytes ≡ kind_byte m.kind ∷ length m.name ∷ (m.name ++ rest)

code_of : (k : ℕ) → IsInRange 0 1 k → kind_byte (kind_of k) ≡ k
code_of zero h = refl
code_of (suc zero) h = refl
code_of (suc (suc k)) h = absurd (omega arith)

entry_by : (k n : ℕ) (bytes one more text after rest : List ℕ) (m : Entry) → IsInRange 0 1 k → bytes ≡ k ∷ one → IsInRange 1 16 n → one ≡ n ∷ more → NameOk n more text after
    → record { kind = kind_of k; name = text } ≡ m → after ≡ rest → EntrySaid bytes m rest
entry_by k n bytes one more text after rest m hk lk hn ln t e r =
    rw (← e, ← r) (record {
      named = (rw t.long hn, t.shown);
      laid = lk ∙ rw (code_of k hk, t.long) (ap (λ (y : List ℕ). k ∷ y) (ln ∙ ap (λ (y : List ℕ). n ∷ y) t.laid));
    })

entry_said : (bytes : List ℕ) (m : Entry) (rest : List ℕ) → entry bytes ≡ Ok (m, rest) → EntrySaid bytes m rest
entry_said bytes m rest h =
    let p = then_ok (byte 0 1 bytes) _ (m, rest) h in
    let q = then_ok (byte 1 16 p.1) _ (m, rest) p.3 in
    let t = then_ok (name q.0 q.1) _ (m, rest) q.3 in
    let a = byte_ok 0 1 bytes p.0 p.1 p.2 in
    let b = byte_ok 1 16 p.1 q.0 q.1 q.2 in
    let e = ok_parts (record { kind = kind_of p.0; name = t.0 }) m t.1 rest t.3 in
    entry_by p.0 q.0 bytes p.1 q.1 t.0 t.1 rest m a.0 a.1 b.0 b.1 (name_ok q.0 q.1 t.0 t.1 t.2) e.0 e.1

abbrev wiring : List Channel → List ℕ → List ℕ
wiring cs ss = two (length cs) ++ (channel_bytes cs ++ sizing ss)

record ModulesSaid (n k : ℕ) (bytes : List ℕ) (c : Contents) : Type 0 where
  long : length c.modules ≡ k
  named : AllByRecursion (λ m. Named m.name) c.modules
  few : length c.channels ≤ 192
  ends : Ends n c.channels
  sized : (length c.sizes ≡ 0) ⊎ (length c.sizes ≡ length c.channels)
  each : AllByRecursion (IsInRange 1 16) c.sizes
  laid : bytes ≡ module_bytes c.modules ++ wiring c.channels c.sizes

modules_none : (n e : ℕ) (bytes rest : List ℕ) (c : Contents) → e ≤ 192 → CountOk bytes e rest → ChannelsSaid n e e rest c → ModulesSaid n 0 bytes c
modules_none n e bytes rest c l k s =
    record {
      long = rw s.modules refl;
      named = rw s.modules tt;
      few = rw s.long l;
      ends = s.ends;
      sized = rw s.long s.sized;
      each = s.each;
      laid = rw (s.modules, s.long) (counted_laid bytes e rest l k ∙ ap (λ (y : List ℕ). two e ++ y) s.laid);
    }

modules_more : (n k : ℕ) (bytes rest : List ℕ) (m : Entry) (d c : Contents) → EntrySaid bytes m rest → ModulesSaid n k rest d → join (one_module m) d ≡ c → ModulesSaid n (suc k) bytes c
modules_more n k bytes rest m d c o i j =
    rw (← j) (record {
      long = ap suc i.long;
      named = (o.named, i.named);
      few = i.few;
      ends = i.ends;
      sized = i.sized;
      each = i.each;
      laid = o.laid ∙ rw append_assoc (ap (λ (y : List ℕ). kind_byte m.kind ∷ length m.name ∷ (m.name ++ y)) i.laid);
    })

modules_said : (n k : ℕ) (bytes : List ℕ) (c : Contents) → modules n k bytes ≡ Ok c → ModulesSaid n k bytes c
modules_said n zero bytes c h =
    let p = then_ok (count (is_in_range 0 192) bytes) (λ e rest. channels n e e rest) c h in
    let t = count_ok (is_in_range 0 192) bytes p.0 p.1 p.2 in
    let few = (within_in 0 192 p.0 t.0).1 in
    modules_none n p.0 bytes p.1 c few t.1 (channels_said n p.0 p.0 p.1 c few p.3)
modules_said n (suc k) bytes c h =
    let p = then_ok (entry bytes) (λ m rest. before (one_module m) (modules n k rest)) c h in
    let q = before_ok (one_module p.0) (modules n k p.1) c p.3 in
    modules_more n k bytes p.1 p.0 q.0 c (entry_said bytes p.0 p.1 p.2) (modules_said n k p.1 q.0 q.1) q.2

said_by : (n : ℕ) (bytes rest : List ℕ) (c : Contents) → IsInRange 1 64 n → CountOk bytes n rest → ModulesSaid n n rest c → Says bytes c
said_by n bytes rest c h k s =
    record {
      valid = record { some = rw s.long h; named = s.named; few = s.few; ends = rw s.long s.ends; sized = s.sized; sizes = s.each };
      laid = rw s.long (counted_laid bytes n rest (omega arith) k ∙ ap (λ (y : List ℕ). two n ++ y) s.laid);
    }

pub said : (bytes : List ℕ) (c : Contents) → contents bytes ≡ Ok c → Says bytes c
said bytes c h =
    let p = then_ok (count (is_in_range 1 64) bytes) (λ n rest. modules n n rest) c h in
    let t = count_ok (is_in_range 1 64) bytes p.0 p.1 p.2 in
    said_by p.0 bytes p.1 c (within_in 1 64 p.0 t.0) t.1 (modules_said p.0 p.0 p.1 c p.3)
