-- What ties the verdict on a file to its layout. Assumes nothing.
use Rattle.std.specs.Prelude.{◌≡◌, ℕ, ◌+◌, ◌<◌, ◌≤◌, ◌⊎◌, List, ◌++◌, length, take, Ok, Err}
use Rattle.netlist.specs.declared.refusal.Cause.{Cause}
use Rattle.netlist.specs.declared.refusal.Cause.TheVariants.{EndsEarly, CountOutOfRange, ValueOutOfRange, ByteAfterEnd}
use Rattle.netlist.specs.declared.refusal.Refusal.{Refusal}
use Rattle.netlist.specs.Faults.{verdict}
use Rattle.netlist.specs.Layout.{Contents, Says, Valid, layout}

-- what is laid out reads as what it was laid out from
abbrev pub ReadBack : Type 0
ReadBack = (c : Contents) → Valid c → verdict (layout c) ≡ Ok c

-- a file says c exactly if c is valid and the file is its layout
abbrev pub SaidExactly : Type 0
SaidExactly = (file : List ℕ) (c : Contents) → (verdict file ≡ Ok c → Says file c) × (Says file c → verdict file ≡ Ok c)

-- cut anywhere below n bytes, the file ends too early
abbrev pub ShortBelow : List ℕ → ℕ → Type 0
ShortBelow file n = (k : ℕ) → k < n → verdict (take k file) ≡ Err (record { cause = EndsEarly; place = k })

-- a fault of this cause is certain with the first so many bytes from its place on: whatever follows them, it stays
pub record Certain (cause : Cause) (wide : ℕ) (file : List ℕ) (x : Refusal) : Type 0 where
  pub is : x.cause ≡ cause
  pub inside : x.place + wide ≤ length file
  pub stays : (more : List ℕ) → verdict (take (x.place + wide) file ++ more) ≡ Err x

-- x is the first fault by the bytes: a file that ends too early does so at its length; a count is judged by its two bytes, a
-- value by its one, and the file cut before the last of them ends too early; before a byte after the end stands a whole file
abbrev pub First : List ℕ → Refusal → Type 0
First file x =
    ((x ≡ record { cause = EndsEarly; place = length file }) × ShortBelow file (length file))
    ⊎ ((Certain CountOutOfRange 2 file x × ShortBelow file (x.place + 2))
    ⊎ ((Certain ValueOutOfRange 1 file x × ShortBelow file (x.place + 1))
    ⊎ (Certain ByteAfterEnd 1 file x × ShortBelow file x.place × ((c : Contents) × Says (take x.place file) c))))

abbrev pub FirstFault : Type 0
FirstFault = (file : List ℕ) (x : Refusal) → verdict file ≡ Err x → First file x

-- a file without fault has no byte too many
abbrev pub NeedsAll : Type 0
NeedsAll = (file : List ℕ) (c : Contents) → Says file c → ShortBelow file (length file)
