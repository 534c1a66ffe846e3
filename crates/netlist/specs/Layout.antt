-- The layout of a netlist file: which bytes say given contents. Assumes nothing.
use Rattle.std.specs.Prelude.{◌≡◌, ℕ, ◌/◌, ◌%◌, ◌≤◌, ◌⊎◌, List, [], ◌∷◌, ◌++◌, length}
use Rattle.std.specs.Int.{IsInRange}
use Rattle.std.specs.List.{AllByRecursion}
use Rattle.netlist.specs.declared.channel.Channel.{Channel}
use Rattle.netlist.specs.declared.kind.Kind.{Kind}
use Rattle.netlist.specs.declared.kind.Kind.TheVariants.{Block, RelayStation}
use Rattle.netlist.specs.Limits.{Named}

-- what a file says of a module
pub record Entry : Type 0 where
  pub kind : Kind
  pub name : List ℕ

-- what a file says: modules, channels, and their queue sizes or none
pub record Contents : Type 0 where
  pub modules : List Entry
  pub channels : List Channel
  pub sizes : List ℕ

-- a count in two bytes, high byte first
abbrev pub two : ℕ → List ℕ
two n = n / 256 ∷ n % 256 ∷ []

abbrev pub kind_byte : Kind → ℕ
kind_byte Block = 0
kind_byte RelayStation = 1

abbrev pub module_bytes : List Entry → List ℕ
module_bytes [] = []
module_bytes (m ∷ ms) = kind_byte m.kind ∷ length m.name ∷ (m.name ++ module_bytes ms)

abbrev pub channel_bytes : List Channel → List ℕ
channel_bytes [] = []
channel_bytes (c ∷ cs) = c.source ∷ c.sink ∷ channel_bytes cs

-- three sections, each after its count
abbrev pub layout : Contents → List ℕ
layout c =
    two (length c.modules) ++ (module_bytes c.modules
    ++ (two (length c.channels) ++ (channel_bytes c.channels
    ++ (two (length c.sizes) ++ c.sizes))))

-- what a file may hold
pub record Valid (c : Contents) : Type 0 where
  pub some : IsInRange 1 64 (length c.modules)
  pub named : AllByRecursion (λ m. Named m.name) c.modules
  pub few : length c.channels ≤ 192
  pub ends : AllByRecursion (λ d. IsInRange 1 (length c.modules) d.source × IsInRange 1 (length c.modules) d.sink) c.channels
  pub sized : (length c.sizes ≡ 0) ⊎ (length c.sizes ≡ length c.channels)
  pub sizes : AllByRecursion (IsInRange 1 16) c.sizes

-- the file says these contents
pub record Says (file : List ℕ) (c : Contents) : Type 0 where
  pub valid : Valid c
  pub laid : file ≡ layout c
