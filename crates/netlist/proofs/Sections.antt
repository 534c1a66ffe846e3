-- A record off the front of a section.
use Rattle.std.proofs.Common.{◌≡◌, ℕ, zero, suc, ◌-◌, ◌<◌, false, List, length, Ok, Err, Result, refl, arith}
use Rattle.netlist.specs.declared.flaw.Flaw.{Flaw}
use Rattle.netlist.specs.declared.kind.Kind.{Kind}
use Rattle.netlist.specs.declared.scan.Section.{Section}
use Rattle.netlist.specs.declared.scan.Section.TheVariants.{Start, Modules, Channels, Sizes}
use Rattle.netlist.specs.Faults.{Reading, before, byte, channel, channels, entry, kind, kind_of, modules, name, one_channel, one_module, one_size, sizes, then}
use Rattle.netlist.specs.Layout.{Contents}
use Rattle.netlist.specs.Limits.{Named}
use Rattle.netlist.specs.Scans.{ahead_in, count_due, first_in, first_module}
use Rattle.netlist.proofs.Sound.{byte_shorter, channel_shorter, entry_named, entry_shorter, ok_parts, then_ok}

-- The record is given, and the section goes on; or there is a flaw instead.
module _ {A : Type 0} (one : A → Contents) (next : List ℕ → Result Contents Flaw) where
  given : (x : Reading A) (c : Contents) (rest : List ℕ) → then {B = Contents × List ℕ} x (λ a more. Ok (one a, more)) ≡ Ok (c, rest) → then x (λ a more. before (one a) (next more)) ≡ before c (next rest)
  given (Ok p) c rest h = let e = ok_parts (one p.0) c p.1 rest h in rw (e.0, e.1) refl
  given (Err f) c rest h = cc

  withheld : (x : Reading A) (f : Flaw) → then {B = Contents × List ℕ} x (λ a more. Ok (one a, more)) ≡ Err f → then x (λ a more. before (one a) (next more)) ≡ Err f
  withheld (Ok p) f h = cc
  withheld (Err e) f h = cc

less_one : (k : ℕ) → suc k - 1 ≡ k
less_one k = omega arith

pub taken : (s : Section) (k : ℕ) (bytes rest : List ℕ) (c : Contents) → count_due s k ≡ false → first_in s bytes ≡ Ok (c, rest)
    → ahead_in s k bytes ≡ before c (ahead_in s (k - 1) rest)
taken Start k bytes rest c due h = cc
taken (Modules n) zero bytes rest c due h = cc
taken (Modules n) (suc k) bytes rest c due h = rw less_one (given one_module (modules n k) (entry bytes) c rest h)
taken (Channels n e) zero bytes rest c due h = cc
taken (Channels n e) (suc k) bytes rest c due h = rw less_one (given one_channel (channels n e k) (channel n bytes) c rest h)
taken Sizes zero bytes rest c due h = cc
taken Sizes (suc k) bytes rest c due h = rw less_one (given one_size (sizes k) (byte 1 16 bytes) c rest h)

pub refused : (s : Section) (k : ℕ) (bytes : List ℕ) (f : Flaw) → count_due s k ≡ false → first_in s bytes ≡ Err f → ahead_in s k bytes ≡ Err f
refused Start k bytes f due h = cc
refused (Modules n) zero bytes f due h = cc
refused (Modules n) (suc k) bytes f due h = withheld one_module (modules n k) (entry bytes) f h
refused (Channels n e) zero bytes f due h = cc
refused (Channels n e) (suc k) bytes f due h = withheld one_channel (channels n e k) (channel n bytes) f h
refused Sizes zero bytes f due h = cc
refused Sizes (suc k) bytes f due h = withheld one_size (sizes k) (byte 1 16 bytes) f h

-- It takes a byte at least.
less : {A : Type 0} (one : A → Contents) (bytes : List ℕ) (x : Reading A) (c : Contents) (rest : List ℕ)
    → ((a : A) (more : List ℕ) → x ≡ Ok (a, more) → length more < length bytes) → then {B = Contents × List ℕ} x (λ a more. Ok (one a, more)) ≡ Ok (c, rest)
    → length rest < length bytes
less one bytes (Ok p) c rest short h = rw (← (ok_parts (one p.0) c p.1 rest h).1) (short p.0 p.1 refl)
less one bytes (Err f) c rest short h = cc

pub shorter : (s : Section) (bytes rest : List ℕ) (c : Contents) → first_in s bytes ≡ Ok (c, rest) → length rest < length bytes
shorter Start bytes rest c h = cc
shorter (Modules n) bytes rest c h = less one_module bytes (entry bytes) c rest (entry_shorter bytes) h
shorter (Channels n e) bytes rest c h = less one_channel bytes (channel n bytes) c rest (channel_shorter n bytes) h
shorter Sizes bytes rest c h = less one_size bytes (byte 1 16 bytes) c rest (byte_shorter 1 16 bytes) h

-- A module by its parts.
entry_read : (bytes one two rest text : List ℕ) (k : Kind) (n : ℕ) → kind bytes ≡ Ok (k, one) → byte 1 16 one ≡ Ok (n, two) → name n two ≡ Ok (text, rest)
    → entry bytes ≡ Ok (record { kind = k; name = text }, rest)
entry_read bytes one two rest text k n hk hn ht =
    let p = then_ok (byte 0 1 bytes) _ (k, one) hk in
    let e = ok_parts (kind_of p.0) k p.1 one p.3 in
    rw (p.2, e.1, hn, ht, e.0) refl

pub module_read : (bytes one two rest text : List ℕ) (k : Kind) (n : ℕ) → kind bytes ≡ Ok (k, one) → byte 1 16 one ≡ Ok (n, two) → name n two ≡ Ok (text, rest)
    → (first_module bytes ≡ Ok (one_module (record { kind = k; name = text }), rest)) × Named text
module_read bytes one two rest text k n hk hn ht =
    let e = entry_read bytes one two rest text k n hk hn ht in
    (rw e refl, entry_named bytes (record { kind = k; name = text }) rest e)
