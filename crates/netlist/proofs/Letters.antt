-- A name is read byte by byte.
use Rattle.std.proofs.Common.{◌≡◌, ℕ, zero, suc, ◌<◌, ◌≤◌, true, false, List, [], ◌∷◌, length, take, drop, Some, None, Ok, Err, IsUtf8, refl, arith}
use Rattle.std.proofs.lemmas.Bool.Decides.{nat_tests}
use Rattle.std.proofs.ByRecursion.{IsAscii-from_all}
use Rattle.std.proofs.lemmas.Str.{IsUtf8-from_ascii}
use Rattle.std.specs.Int.{IsInRange, IsOutOfRange, is_in_range}
use Rattle.std.specs.List.{AllByRecursion}
use Rattle.netlist.specs.declared.refusal.Cause.TheVariants.{EndsEarly, ValueOutOfRange}
use Rattle.netlist.specs.Faults.{flaw, name}
use Rattle.netlist.specs.Splits.{FirstBad}

pub within_true : (lo hi b : ℕ) → IsInRange lo hi b → is_in_range lo hi b ≡ true
within_true lo hi b h = grind (arith, nat_tests)

pub within_false : (lo hi b : ℕ) → IsOutOfRange lo hi b → is_in_range lo hi b ≡ false
within_false lo hi b h = grind (arith, nat_tests)

-- The first byte of a name that is none, by its place.
pub name_bad : (n i : ℕ) (bytes : List ℕ) → FirstBad (take n bytes) (Some i)
    → name n bytes ≡ Err (flaw ValueOutOfRange (drop i bytes))
name_bad zero i bytes h = absurd (omega arith)
name_bad (suc n) i [] h = absurd (omega arith)
name_bad (suc n) zero (b ∷ bytes) h = rw (within_false 33 126 b (h.1 0)) refl
name_bad (suc n) (suc i) (b ∷ bytes) h =
    rw (within_true 33 126 b (h.2 0 0 (omega arith) (omega arith)), name_bad n i bytes (omega arith, h.1, λ k d l u. h.2 (suc k) d (omega arith) (omega arith))) refl

-- Without one, it is read, or the bytes end early.
pub name_read : (n : ℕ) (bytes : List ℕ) → n ≤ length bytes → FirstBad (take n bytes) None → name n bytes ≡ Ok (take n bytes, drop n bytes)
name_read zero bytes l h = refl
name_read (suc n) [] l h = absurd (omega arith)
name_read (suc n) (b ∷ bytes) l h =
    rw (within_true 33 126 b (h 0 0 (omega arith) (omega arith)), name_read n bytes (omega arith) (λ k d l u. h (suc k) d (omega arith) (omega arith))) refl

pub name_short : (n : ℕ) (bytes : List ℕ) → length bytes < n → FirstBad (take n bytes) None → name n bytes ≡ Err (flaw EndsEarly [])
name_short zero bytes l h = absurd (omega arith)
name_short (suc n) [] l h = refl
name_short (suc n) (b ∷ bytes) l h =
    rw (within_true 33 126 b (h 0 0 (omega arith) (omega arith)), name_short n bytes (omega arith) (λ k d l u. h (suc k) d (omega arith) (omega arith))) refl

below : (text : List ℕ) → FirstBad text None → AllByRecursion (λ b. b < 128) text
below [] h = tt
below (b ∷ text) h = (omega (arith, h 0 0 (omega arith) (omega arith)), below text (λ k d l u. h (suc k) d (omega arith) (omega arith)))

pub text_ascii : (text : List ℕ) → FirstBad text None → IsUtf8 text
text_ascii text h = IsUtf8-from_ascii text (IsAscii-from_all text (below text h))
