-- What was read keeps its limits.
use Rattle.std.proofs.Common.{◌≡◌, ℕ, zero, suc, ◌+◌, ◌*◌, ◌<◌, ◌≤◌, Bool, true, false, cond, List, [], ◌∷◌, ◌++◌, length, Ok, Err, Result, refl, ap, ◌∙◌, arith, length-append}
use Rattle.std.proofs.lemmas.Bool.Decides.{nat_tests}
use Rattle.std.specs.Int.{IsInRange, is_in_range}
use Rattle.netlist.specs.declared.flaw.Flaw.{Flaw}
use Rattle.netlist.specs.declared.channel.Channel.{Channel}
use Rattle.netlist.specs.declared.kind.Kind.{Kind}
use Rattle.netlist.specs.Faults.{Reading, byte, channel, count, entry, kind_of, name, then}
use Rattle.netlist.specs.Layout.{Entry}
use Rattle.netlist.specs.Limits.{Named, Shown}

-- What stands behind an `Ok` that came by two steps.
pub then_ok : {A B : Type 0} (x : Reading A) (f : A → List ℕ → Result B Flaw) (b : B) → then x f ≡ Ok b → (a : A) × (rest : List ℕ) × (x ≡ Ok (a, rest)) × (f a rest ≡ Ok b)
then_ok (Ok p) f b h = (p.0, p.1, refl, h)
then_ok (Err e) f b h = cc

pub within_in : (lo hi b : ℕ) → is_in_range lo hi b ≡ true → IsInRange lo hi b
within_in lo hi b h = (grind (arith, nat_tests), grind (arith, nat_tests))

-- Equal readings have equal parts.
pub ok_parts : {A : Type 0} (a b : A) (r s : List ℕ) → ◌≡◌ {A = Reading A} (Ok (a, r)) (Ok (b, s)) → (a ≡ b) × (r ≡ s)
ok_parts {A} a b r s h =
    let e : ◌≡◌ {A = A × List ℕ} (a, r) (b, s) = cc in
    (ap (λ (p : A × List ℕ). p.0) e, ap (λ (p : A × List ℕ). p.1) e)

-- The test that let a value through.
pub passed : {A : Type 0} (t : Bool) (x y : A) (f : Flaw) → cond t (Ok x) (Err f) ≡ Ok y → (t ≡ true) × (x ≡ y)
passed true x y f h = (refl, cc)
passed false x y f h = cc

pub byte_ok : (lo hi : ℕ) (bytes : List ℕ) (b : ℕ) (rest : List ℕ) → byte lo hi bytes ≡ Ok (b, rest) → IsInRange lo hi b × (bytes ≡ b ∷ rest)
byte_ok lo hi [] b rest h = cc
byte_ok lo hi (x ∷ bytes) b rest h =
    let p = passed (is_in_range lo hi x) (x, bytes) (b, rest) _ h in
    let same = ap (λ (p : ℕ × List ℕ). p.0) p.1 in
    let after = ap (λ (p : ℕ × List ℕ). p.1) p.1 in
    (rw same at (within_in lo hi x p.0), rw (same, after) refl)

shown_cons : (b : ℕ) (bytes : List ℕ) → IsInRange 33 126 b → Shown bytes → Shown (b ∷ bytes)
shown_cons b bytes h s zero l = h
shown_cons b bytes h s (suc k) l = s k (omega arith)

shown_nil : Shown []
shown_nil k l = absurd (omega arith)

pub record NameOk (n : ℕ) (bytes text rest : List ℕ) : Type 0 where
  pub long : length text ≡ n
  pub shown : Shown text
  pub laid : bytes ≡ text ++ rest

name_none : (bytes text rest : List ℕ) → [] ≡ text → bytes ≡ rest → NameOk 0 bytes text rest
name_none bytes text rest t r = rw (← t) (record { long = refl; shown = shown_nil; laid = r })

name_more : (n b : ℕ) (bytes more after text rest : List ℕ) → IsInRange 33 126 b → NameOk n bytes more after → b ∷ more ≡ text → after ≡ rest → NameOk (suc n) (b ∷ bytes) text rest
name_more n b bytes more after text rest h m t r =
    rw (← t, ← r) (record { long = ap suc m.long; shown = shown_cons b more h m.shown; laid = ap (λ (y : List ℕ). b ∷ y) m.laid })

pub name_ok : (n : ℕ) (bytes text rest : List ℕ) → name n bytes ≡ Ok (text, rest) → NameOk n bytes text rest
name_ok zero bytes text rest h = let e = ok_parts [] text bytes rest h in name_none bytes text rest e.0 e.1
name_ok (suc n) bytes text rest h =
    let p = then_ok (byte 33 126 bytes) _ (text, rest) h in
    let q = then_ok (name n p.1) _ (text, rest) p.3 in
    let b = byte_ok 33 126 bytes p.0 p.1 p.2 in
    let m = name_ok n p.1 q.0 q.1 q.2 in
    let e = ok_parts (p.0 ∷ q.0) text q.1 rest q.3 in
    rw b.1 (name_more n p.0 p.1 q.0 q.1 text rest b.0 m e.0 e.1)

named_by : (n : ℕ) (bytes text after : List ℕ) (m : Entry) (k : Kind) → IsInRange 1 16 n → NameOk n bytes text after → record { kind = k; name = text } ≡ m → Named m.name
named_by n bytes text after m k h t e = rw (← e) (rw t.long h, t.shown)

pub entry_named : (bytes : List ℕ) (m : Entry) (rest : List ℕ) → entry bytes ≡ Ok (m, rest) → Named m.name
entry_named bytes m rest h =
    let p = then_ok (byte 0 1 bytes) _ (m, rest) h in
    let q = then_ok (byte 1 16 p.1) _ (m, rest) p.3 in
    let t = then_ok (name q.0 q.1) _ (m, rest) q.3 in
    let long = byte_ok 1 16 p.1 q.0 q.1 q.2 in
    let e = ok_parts (record { kind = kind_of p.0; name = t.0 }) m t.1 rest t.3 in
    named_by q.0 q.1 t.0 t.1 m (kind_of p.0) long.0 (name_ok q.0 q.1 t.0 t.1 t.2) e.0

pub byte_shorter : (lo hi : ℕ) (bytes : List ℕ) (b : ℕ) (rest : List ℕ) → byte lo hi bytes ≡ Ok (b, rest) → length rest < length bytes
byte_shorter lo hi bytes b rest h = rw (byte_ok lo hi bytes b rest h).1 (omega arith)

name_shorter : (n : ℕ) (bytes text rest : List ℕ) → name n bytes ≡ Ok (text, rest) → length rest ≤ length bytes
name_shorter n bytes text rest h = rw (name_ok n bytes text rest h).laid (simp length-append (omega arith))

pub entry_shorter : (bytes : List ℕ) (m : Entry) (rest : List ℕ) → entry bytes ≡ Ok (m, rest) → length rest < length bytes
entry_shorter bytes m rest h =
    let p = then_ok (byte 0 1 bytes) _ (m, rest) h in
    let q = then_ok (byte 1 16 p.1) _ (m, rest) p.3 in
    let t = then_ok (name q.0 q.1) _ (m, rest) q.3 in
    let e = ok_parts (record { kind = kind_of p.0; name = t.0 }) m t.1 rest t.3 in
    let a = byte_shorter 0 1 bytes p.0 p.1 p.2 in
    let b = byte_shorter 1 16 p.1 q.0 q.1 q.2 in
    let d = name_shorter q.0 q.1 t.0 t.1 t.2 in
    rw (← e.1) (omega arith)

pub record ChannelOk (n : ℕ) (bytes : List ℕ) (c : Channel) (rest : List ℕ) : Type 0 where
  pub source : IsInRange 1 n c.source
  pub sink : IsInRange 1 n c.sink
  pub laid : bytes ≡ c.source ∷ c.sink ∷ rest

channel_by : (n : ℕ) (bytes middle after : List ℕ) (a b : ℕ) (c : Channel) (rest : List ℕ) → IsInRange 1 n a → bytes ≡ a ∷ middle → IsInRange 1 n b → middle ≡ b ∷ after
    → record { source = a; sink = b } ≡ c → after ≡ rest → ChannelOk n bytes c rest
channel_by n bytes middle after a b c rest ha la hb lb e r =
    rw (← e, ← r) (record { source = ha; sink = hb; laid = la ∙ ap (λ (y : List ℕ). a ∷ y) lb })

pub channel_ok : (n : ℕ) (bytes : List ℕ) (c : Channel) (rest : List ℕ) → channel n bytes ≡ Ok (c, rest) → ChannelOk n bytes c rest
channel_ok n bytes c rest h =
    let p = then_ok (byte 1 n bytes) _ (c, rest) h in
    let q = then_ok (byte 1 n p.1) _ (c, rest) p.3 in
    let e = ok_parts (record { source = p.0; sink = q.0 }) c q.1 rest q.3 in
    let a = byte_ok 1 n bytes p.0 p.1 p.2 in
    let b = byte_ok 1 n p.1 q.0 q.1 q.2 in
    channel_by n bytes p.1 q.1 p.0 q.0 c rest a.0 a.1 b.0 b.1 e.0 e.1

pub channel_shorter : (n : ℕ) (bytes : List ℕ) (c : Channel) (rest : List ℕ) → channel n bytes ≡ Ok (c, rest) → length rest < length bytes
channel_shorter n bytes c rest h = rw (channel_ok n bytes c rest h).laid (omega arith)

pub record CountOk (bytes : List ℕ) (v : ℕ) (rest : List ℕ) : Type 0 where
  pub high : ℕ
  pub low : ℕ
  pub laid : bytes ≡ high ∷ low ∷ rest
  pub is : 256 * high + low ≡ v

pub count_ok : (allowed : ℕ → Bool) (bytes : List ℕ) (v : ℕ) (rest : List ℕ) → count allowed bytes ≡ Ok (v, rest) → (allowed v ≡ true) × CountOk bytes v rest
count_ok allowed [] v rest h = cc
count_ok allowed (x ∷ []) v rest h = cc
count_ok allowed (x ∷ y ∷ bytes) v rest h =
    let p = passed (allowed (256 * x + y)) (256 * x + y, bytes) (v, rest) _ h in
    let same = ap (λ (p : ℕ × List ℕ). p.0) p.1 in
    let after = ap (λ (p : ℕ × List ℕ). p.1) p.1 in
    (rw same at p.0, record { high = x; low = y; laid = rw after refl; is = same })

pub count_shorter : (allowed : ℕ → Bool) (bytes : List ℕ) (v : ℕ) (rest : List ℕ) → count allowed bytes ≡ Ok (v, rest) → length rest ≤ length bytes
count_shorter allowed bytes v rest h = rw (count_ok allowed bytes v rest h).1.laid (omega arith)
