-- What a scan of a file has yet to give, and what each of its calls does with that. Assumes nothing.
use Rattle.std.specs.Prelude.{◌≡◌, ℕ, ◌<◌, ◌≤◌, Bool, true, List, length, Some, None, Ok, Err, Option, Result, ◌==◌}
use Rattle.netlist.specs.declared.flaw.Flaw.{Flaw}
use Rattle.netlist.specs.declared.record.Record.{Record}
use Rattle.netlist.specs.declared.record.Record.TheVariants.{Module, Channel, Size}
use Rattle.netlist.specs.declared.refusal.Cause.TheVariants.{EndsEarly}
use Rattle.netlist.specs.declared.scan.Section.{Section}
use Rattle.netlist.specs.declared.scan.Section.TheVariants.{Start, Modules, Channels, Sizes}
use Rattle.netlist.specs.declared.scan.Scan.{Scan}
use Rattle.netlist.specs.Faults.{Reading, before, byte, channel, channels, contents, entry, flaw, modules, nothing, one_channel, one_module, one_size, sizes, then}
use Rattle.netlist.specs.Layout.{Contents}
use Rattle.netlist.specs.Limits.{Named}

-- the contents that one record says
abbrev pub held : Record → Contents
held (Module kind name) = one_module (record { kind = kind; name = name.now })
held (Channel c) = one_channel c
held (Size s) = one_size s

-- what the rest of the file says, where so many records of the section are left
abbrev pub ahead_in : Section → ℕ → List ℕ → Result Contents Flaw
ahead_in Start left rest = contents rest
ahead_in (Modules n) left rest = modules n left rest
ahead_in (Channels n e) left rest = channels n e left rest
ahead_in Sizes left rest = sizes left rest

abbrev pub ahead : Scan → Result Contents Flaw
ahead s = ahead_in s.section s.left s.rest.now

-- a count is due, and no record
abbrev pub count_due : Section → ℕ → Bool
count_due Start left = true
count_due (Modules n) left = left == 0
count_due (Channels n e) left = left == 0
count_due Sizes left = left == 0

abbrev pub at_count : Scan → Bool
at_count s = count_due s.section s.left

-- the record at the front of a section, as what it says
abbrev pub first_module : List ℕ → Reading Contents
first_module bytes = then (entry bytes) (λ m rest. Ok (one_module m, rest))

abbrev pub first_channel : ℕ → List ℕ → Reading Contents
first_channel n bytes = then (channel n bytes) (λ c rest. Ok (one_channel c, rest))

abbrev pub first_size : List ℕ → Reading Contents
first_size bytes = then (byte 1 16 bytes) (λ s rest. Ok (one_size s, rest))

-- before the first count there is none
abbrev pub first_in : Section → List ℕ → Reading Contents
first_in Start bytes = Err (flaw EndsEarly bytes)
first_in (Modules n) bytes = first_module bytes
first_in (Channels n e) bytes = first_channel n bytes
first_in Sizes bytes = first_size bytes

-- from what was coming, a record and what is coming then; or the flaw, which is still to come
abbrev pub Takes : {E : Type 0} → Result Contents E → Result Record E → Result Contents E → Type 0
Takes was (Ok r) is = was ≡ before (held r) is
Takes was (Err e) is = (was ≡ Err e) × (is ≡ was)

-- the same, or none where nothing is to come, now and again
abbrev pub Next : {E : Type 0} → Result Contents E → Result (Option Record) E → Result Contents E → Type 0
Next was (Ok (Some r)) is = was ≡ before (held r) is
Next was (Ok None) is = (was ≡ Ok nothing) × (is ≡ was)
Next was (Err e) is = (was ≡ Err e) × (is ≡ was)

abbrev pub sections_left : Section → ℕ
sections_left Start = 3
sections_left (Modules n) = 2
sections_left (Channels n e) = 1
sections_left Sizes = 0

abbrev pub Turns : Scan → Result (Option Scan) Flaw → Type 0
Turns was (Ok (Some is)) =
    (ahead was ≡ ahead is) × (sections_left is.section < sections_left was.section) × (length is.rest.now ≤ length was.rest.now)
Turns was (Ok None) = ahead was ≡ Ok nothing
Turns was (Err e) = ahead was ≡ Err e

-- a module's name is one
abbrev pub Fair : Record → Type 0
Fair (Module kind name) = Named name.now
Fair (Channel c) = Unit {0}
Fair (Size s) = Unit {0}

abbrev pub FairNext : {E : Type 0} → Result (Option Record) E → Type 0
FairNext (Ok (Some r)) = Fair r
FairNext (Ok None) = Unit {0}
FairNext (Err e) = Unit {0}

-- a record takes a byte at least
abbrev pub Shorter : {E : Type 0} → List ℕ → Result (Option Record) E → List ℕ → Type 0
Shorter was (Ok (Some r)) is = length is < length was
Shorter was (Ok None) is = Unit {0}
Shorter was (Err e) is = Unit {0}
