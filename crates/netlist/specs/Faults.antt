-- What the bytes of a file say from the front on, or which fault they meet first. Assumes nothing.
-- Each definition takes what is left of a file, and gives what stands at its front with the bytes after it. A flaw tells how many
-- bytes are left from its place on; its place from the front follows once, at the end. The laws in Laws.antt tie all of this to the layout.
use Rattle.std.specs.Prelude.{ℕ, zero, suc, ◌+◌, ◌-◌, ◌*◌, Bool, cond, ◌||◌, List, [], ◌∷◌, ◌++◌, length, Ok, Err, Result, ◌==◌}
use Rattle.std.specs.Int.{is_in_range}
use Rattle.netlist.specs.declared.channel.Channel.{Channel}
use Rattle.netlist.specs.declared.flaw.Flaw.{Flaw}
use Rattle.netlist.specs.declared.kind.Kind.{Kind}
use Rattle.netlist.specs.declared.kind.Kind.TheVariants.{Block, RelayStation}
use Rattle.netlist.specs.declared.refusal.Cause.{Cause}
use Rattle.netlist.specs.declared.refusal.Cause.TheVariants.{EndsEarly, CountOutOfRange, ValueOutOfRange, ByteAfterEnd}
use Rattle.netlist.specs.declared.refusal.Refusal.{Refusal}
use Rattle.netlist.specs.Layout.{Contents, Entry}

-- a flaw at the front of these bytes
abbrev pub flaw : Cause → List ℕ → Flaw
flaw cause bytes = record { cause = cause; left = length bytes }

-- what stands at the front and the bytes after it, or a flaw
abbrev pub Reading : Type 0 → Type 0
Reading A = Result (A × List ℕ) Flaw

abbrev pub then : {A B : Type 0} → Reading A → (A → List ℕ → Result B Flaw) → Result B Flaw
then (Ok p) f = f p.0 p.1
then (Err e) f = Err e

-- a byte from low to high
abbrev pub byte : ℕ → ℕ → List ℕ → Reading ℕ
byte low high [] = Err (flaw EndsEarly [])
byte low high (b ∷ rest) = cond (is_in_range low high b) (Ok (b, rest)) (Err (flaw ValueOutOfRange (b ∷ rest)))

-- a count of two bytes, high byte first, that is allowed
abbrev pub count : (ℕ → Bool) → List ℕ → Reading ℕ
count allowed [] = Err (flaw EndsEarly [])
count allowed (high ∷ []) = Err (flaw EndsEarly [])
count allowed (high ∷ low ∷ rest) =
    cond (allowed (256 * high + low)) (Ok (256 * high + low, rest)) (Err (flaw CountOutOfRange (high ∷ low ∷ rest)))

-- so many bytes of a name
abbrev pub name : ℕ → List ℕ → Reading (List ℕ)
name zero bytes = Ok ([], bytes)
name (suc n) bytes = then (byte 33 126 bytes) (λ b rest. then (name n rest) (λ more rest. Ok (b ∷ more, rest)))

abbrev pub kind_of : ℕ → Kind
kind_of k = cond (k == 0) Block RelayStation

-- the kind of a kind byte, and a kind at the front
abbrev pub kind_at : ℕ → Result Kind Cause
kind_at k = cond (is_in_range 0 1 k) (Ok (kind_of k)) (Err ValueOutOfRange)

abbrev pub kind : List ℕ → Reading Kind
kind bytes = then (byte 0 1 bytes) (λ k rest. Ok (kind_of k, rest))

-- a module: its kind, the length of its name, and the name
abbrev pub entry : List ℕ → Reading Entry
entry bytes =
    then (byte 0 1 bytes) (λ k rest.
    then (byte 1 16 rest) (λ n rest.
    then (name n rest) (λ text rest. Ok (record { kind = kind_of k; name = text }, rest))))

-- a channel among n modules
abbrev pub channel : ℕ → List ℕ → Reading Channel
channel n bytes =
    then (byte 1 n bytes) (λ a rest.
    then (byte 1 n rest) (λ b rest. Ok (record { source = a; sink = b }, rest)))

-- contents of no record and of one, and contents one after the other
abbrev pub nothing : Contents
nothing = record { modules = []; channels = []; sizes = [] }

abbrev pub one_module : Entry → Contents
one_module m = record { modules = m ∷ []; channels = []; sizes = [] }

abbrev pub one_channel : Channel → Contents
one_channel c = record { modules = []; channels = c ∷ []; sizes = [] }

abbrev pub one_size : ℕ → Contents
one_size s = record { modules = []; channels = []; sizes = s ∷ [] }

abbrev pub join : Contents → Contents → Contents
join a b = record { modules = a.modules ++ b.modules; channels = a.channels ++ b.channels; sizes = a.sizes ++ b.sizes }

-- what was read, before what is still to come
abbrev pub before : {E : Type 0} → Contents → Result Contents E → Result Contents E
before a (Ok b) = Ok (join a b)
before a (Err e) = Err e

-- the last k sizes, and then the end
abbrev pub sizes : ℕ → List ℕ → Result Contents Flaw
sizes zero [] = Ok nothing
sizes zero (b ∷ rest) = Err (flaw ByteAfterEnd (b ∷ rest))
sizes (suc k) bytes = then (byte 1 16 bytes) (λ s rest. before (one_size s) (sizes k rest))

-- the last k of e channels among n modules, and then the sizing, whose count is 0 or e
abbrev pub channels : ℕ → ℕ → ℕ → List ℕ → Result Contents Flaw
channels n e zero bytes = then (count (λ s. (s == 0) || s == e) bytes) (λ s rest. sizes s rest)
channels n e (suc k) bytes = then (channel n bytes) (λ c rest. before (one_channel c) (channels n e k rest))

-- the last k of n modules, and then the channels
abbrev pub modules : ℕ → ℕ → List ℕ → Result Contents Flaw
modules n zero bytes = then (count (is_in_range 0 192) bytes) (λ e rest. channels n e e rest)
modules n (suc k) bytes = then (entry bytes) (λ m rest. before (one_module m) (modules n k rest))

-- the whole file
abbrev pub contents : List ℕ → Result Contents Flaw
contents bytes = then (count (is_in_range 1 64) bytes) (λ n rest. modules n n rest)

-- a flaw with its place from the front, in a file of so many bytes
abbrev pub placed_flaw : ℕ → Flaw → Refusal
placed_flaw size f = record { cause = f.cause; place = size - f.left }

abbrev pub placed : ℕ → Result Contents Flaw → Result Contents Refusal
placed size (Ok c) = Ok c
placed size (Err f) = Err (placed_flaw size f)

-- what a file says, or its fault
abbrev pub verdict : List ℕ → Result Contents Refusal
verdict file = placed (length file) (contents file)
