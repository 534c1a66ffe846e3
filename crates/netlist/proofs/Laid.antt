-- What is laid out is read back.
use Rattle.std.proofs.Common.{◌≡◌, ℕ, suc, ◌+◌, ◌*◌, ◌/◌, ◌%◌, ◌≤◌, Bool, true, ◌||◌, eqb, ◌⊎◌, List, [], ◌∷◌, ◌++◌, length, Ok, refl, append_assoc, arith}
use Rattle.std.proofs.lemmas.Bool.Decides.{nat_tests}
use Rattle.std.specs.Int.{IsInRange, is_in_range}
use Rattle.std.specs.List.{AllByRecursion}
use Rattle.netlist.specs.declared.channel.Channel.{Channel}
use Rattle.netlist.specs.declared.kind.Kind.{Kind}
use Rattle.netlist.specs.declared.kind.Kind.TheVariants.{Block, RelayStation}
use Rattle.netlist.specs.Faults.{channels, contents, count, entry, kind_of, modules, name, sizes}
use Rattle.netlist.specs.Layout.{Contents, Entry, Valid, channel_bytes, kind_byte, layout, module_bytes, two}
use Rattle.netlist.specs.Limits.{Named, Shown}
use Rattle.netlist.proofs.Letters.{within_true}

count_laid : (allowed : ℕ → Bool) (n : ℕ) (rest : List ℕ) → allowed n ≡ true → count allowed (two n ++ rest) ≡ Ok (n, rest)
count_laid allowed n rest h =
    let e : 256 * (n / 256) + n % 256 ≡ n = omega arith in
    rw (e, h) refl

name_laid : (text rest : List ℕ) → Shown text → name (length text) (text ++ rest) ≡ Ok (text, rest)
name_laid [] rest h = refl
name_laid (b ∷ text) rest h =
    rw (within_true 33 126 b (h 0 (omega arith)), name_laid text rest (λ k l. h (suc k) (omega arith))) refl

kind_laid : (k : Kind) → kind_of (kind_byte k) ≡ k
kind_laid Block = refl
kind_laid RelayStation = refl

code_within : (k : Kind) → is_in_range 0 1 (kind_byte k) ≡ true
code_within Block = refl
code_within RelayStation = refl

entry_laid : (m : Entry) (rest : List ℕ) → Named m.name → entry (kind_byte m.kind ∷ length m.name ∷ (m.name ++ rest)) ≡ Ok (m, rest)
entry_laid m rest h =
    rw (code_within m.kind, within_true 1 16 (length m.name) h.0, name_laid m.name rest h.1, kind_laid m.kind) refl

sizes_laid : (ss : List ℕ) → AllByRecursion (IsInRange 1 16) ss → sizes (length ss) ss ≡ Ok (record { modules = []; channels = []; sizes = ss })
sizes_laid [] h = refl
sizes_laid (s ∷ ss) h = rw (within_true 1 16 s h.0, sizes_laid ss h.1) refl

channels_laid : (n e : ℕ) (cs : List Channel) (rest : List ℕ) (ss : List ℕ) → AllByRecursion (λ d. IsInRange 1 n d.source × IsInRange 1 n d.sink) cs
    → channels n e 0 rest ≡ Ok (record { modules = []; channels = []; sizes = ss })
    → channels n e (length cs) (channel_bytes cs ++ rest) ≡ Ok (record { modules = []; channels = cs; sizes = ss })
channels_laid n e [] rest ss h last = last
channels_laid n e (c ∷ cs) rest ss h last =
    rw (within_true 1 n c.source h.0.0, within_true 1 n c.sink h.0.1, channels_laid n e cs rest ss h.1 last) refl

modules_laid : (n : ℕ) (ms : List Entry) (cs : List Channel) (ss : List ℕ) (rest : List ℕ) → AllByRecursion (λ m. Named m.name) ms
    → modules n 0 rest ≡ Ok (record { modules = []; channels = cs; sizes = ss })
    → modules n (length ms) (module_bytes ms ++ rest) ≡ Ok (record { modules = ms; channels = cs; sizes = ss })
modules_laid n [] cs ss rest h last = last
modules_laid n (m ∷ ms) cs ss rest h last =
    rw (append_assoc, entry_laid m (module_bytes ms ++ rest) h.0, modules_laid n ms cs ss rest h.1 last) refl

sized_allowed : (s e : ℕ) → (s ≡ 0) ⊎ (s ≡ e) → (eqb s 0 || eqb s e) ≡ true
sized_allowed s e h = grind (arith, nat_tests)

last_laid : (n e : ℕ) (ss : List ℕ) → (length ss ≡ 0) ⊎ (length ss ≡ e) → AllByRecursion (IsInRange 1 16) ss
    → channels n e 0 (two (length ss) ++ ss) ≡ Ok (record { modules = []; channels = []; sizes = ss })
last_laid n e ss h all =
    rw (count_laid (λ s. eqb s 0 || eqb s e) (length ss) ss (sized_allowed (length ss) e h)) (sizes_laid ss all)

middle_laid : (n : ℕ) (cs : List Channel) (ss : List ℕ) → length cs ≤ 192 → AllByRecursion (λ d. IsInRange 1 n d.source × IsInRange 1 n d.sink) cs
    → (length ss ≡ 0) ⊎ (length ss ≡ length cs) → AllByRecursion (IsInRange 1 16) ss
    → modules n 0 (two (length cs) ++ (channel_bytes cs ++ (two (length ss) ++ ss))) ≡ Ok (record { modules = []; channels = cs; sizes = ss })
middle_laid n cs ss few ends sized all =
    rw (count_laid (is_in_range 0 192) (length cs) (channel_bytes cs ++ (two (length ss) ++ ss)) (within_true 0 192 (length cs) (omega arith, few)))
    (channels_laid n (length cs) cs (two (length ss) ++ ss) ss ends (last_laid n (length cs) ss sized all))

pub reads_back : (c : Contents) → Valid c → contents (layout c) ≡ Ok c
reads_back c v =
    rw (count_laid (is_in_range 1 64) (length c.modules) (module_bytes c.modules ++ (two (length c.channels) ++ (channel_bytes c.channels ++ (two (length c.sizes) ++ c.sizes)))) (within_true 1 64 (length c.modules) v.some))
    (modules_laid (length c.modules) c.modules c.channels c.sizes (two (length c.channels) ++ (channel_bytes c.channels ++ (two (length c.sizes) ++ c.sizes))) v.named
    (middle_laid (length c.modules) c.channels c.sizes v.few v.ends v.sized v.sizes))
