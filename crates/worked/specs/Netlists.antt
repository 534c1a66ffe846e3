-- The worked netlists, as contents of files. Assumes nothing.
use Rattle.std.specs.Prelude.{◌≡◌, ℕ, List, [], ◌∷◌, map, codes}
use Rattle.netlist.specs.declared.channel.Channel.{Channel}
use Rattle.netlist.specs.declared.kind.Kind.{Kind}
use Rattle.netlist.specs.declared.kind.Kind.TheVariants.{Block, RelayStation}
use Rattle.netlist.specs.declared.netlist.Netlist.{Netlist}
use Rattle.netlist.specs.Holds.{channels_of, modules_of}
use Rattle.netlist.specs.Layout.{Contents, Entry}

-- blocks of one letter, a relay station, and a channel by its ends
abbrev pub A : Entry
A = record { kind = Block; name = codes "A" }

abbrev pub B : Entry
B = record { kind = Block; name = codes "B" }

abbrev pub C : Entry
C = record { kind = Block; name = codes "C" }

abbrev pub rs : Entry
rs = record { kind = RelayStation; name = codes "rs" }

infix 70 ◌⟶◌
abbrev pub ◌⟶◌ : ℕ → ℕ → Channel
a ⟶ b = record { source = a; sink = b }

-- F is the sample: A feeds B, and feeds it once more through a relay station
abbrev pub F : Contents
F = record { modules = A ∷ B ∷ rs ∷ []; channels = 1 ⟶ 3 ∷ 3 ⟶ 2 ∷ 1 ⟶ 2 ∷ []; sizes = 1 ∷ 1 ∷ 1 ∷ [] }

-- the bytes of its file: modules, channels and sizes, each after their count
abbrev pub f_file : List ℕ
f_file =
    0 ∷ 3 ∷ 0 ∷ 1 ∷ 65 ∷ 0 ∷ 1 ∷ 66 ∷ 1 ∷ 2 ∷ 114 ∷ 115 ∷
    0 ∷ 3 ∷ 1 ∷ 3 ∷ 3 ∷ 2 ∷ 1 ∷ 2 ∷
    0 ∷ 3 ∷ 1 ∷ 1 ∷ 1 ∷ []

-- in D two ways lead from A to C, one through B and one through a relay station
abbrev pub D : Contents
D = record { modules = A ∷ B ∷ C ∷ rs ∷ []; channels = 1 ⟶ 2 ∷ 2 ⟶ 3 ∷ 1 ⟶ 4 ∷ 4 ⟶ 3 ∷ []; sizes = 1 ∷ 1 ∷ 1 ∷ 1 ∷ [] }

-- two blocks and a relay station in a ring
abbrev pub Ring : Contents
Ring = record { modules = A ∷ B ∷ rs ∷ []; channels = 1 ⟶ 2 ∷ 2 ⟶ 3 ∷ 3 ⟶ 1 ∷ []; sizes = 1 ∷ 1 ∷ 1 ∷ [] }

-- one block, and two, without a channel
abbrev pub Alone : Contents
Alone = record { modules = A ∷ []; channels = []; sizes = [] }

abbrev pub Pair : Contents
Pair = record { modules = A ∷ B ∷ []; channels = []; sizes = [] }

abbrev pub kinds_of : List Entry → List Kind
kinds_of = map (λ m. m.kind)

-- the netlist has modules of these kinds, whatever their names, and these channels
pub record Made (c : Contents) (n : Netlist) : Type 0 where
  pub kinds : kinds_of (modules_of n) ≡ kinds_of c.modules
  pub channels : channels_of n ≡ c.channels
