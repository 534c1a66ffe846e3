-- The lines that the programs print. Assumes nothing.
use Rattle.std.specs.Prelude.{ℕ, suc, ◌-◌, List, [], ◌∷◌, ◌++◌, ℤ, pos, codes, decimal, slice_index_or}
use Rattle.std.specs.Fmt.{signed_decimal}
use Rattle.netlist.specs.declared.refusal.Refusal.{Refusal}
use Rattle.netlist.specs.Layout.{Entry}
use Rattle.netlist.specs.Refusals.{refusal_line}

-- a text for each element of a list, numbered from k on, one after the other
abbrev pub numbered : {A : Type 0} → (ℕ → A → List ℕ) → ℕ → List A → List ℕ
numbered text k [] = []
numbered text k (x ∷ xs) = text k x ++ numbered text (suc k) xs

-- as `rate 2/3`
abbrev pub rate_line : ℕ → ℕ → List ℕ
rate_line p l = codes "rate " ++ (decimal p ++ (codes "/" ++ (decimal l ++ codes "\n")))

-- as `places 1 3 6`, or `places` alone
abbrev pub spaced : ℕ → ℕ → List ℕ
spaced k p = codes " " ++ decimal p

abbrev pub places_line : List ℕ → List ℕ
places_line ps = codes "places" ++ (numbered spaced 1 ps ++ codes "\n")

-- as `module 3 rs 0`: number, name and the words of a value
abbrev pub named : List ℕ → ℕ → Entry → List ℕ
named words k m = codes "module " ++ (decimal k ++ (codes " " ++ (m.name ++ (codes " " ++ (words ++ codes "\n")))))

-- the value is a potential
abbrev pub line_of : ℤ → ℕ → Entry → List ℕ
line_of z = named (signed_decimal z)

-- the potential of module k is the entry k - 1 of a list
abbrev pub module_line : List ℤ → ℕ → Entry → List ℕ
module_line potentials k m = line_of (slice_index_or potentials (k - 1) (pos 0)) k m

-- the lines of a rating: the rate, the cycle's places and the modules
abbrev pub rating_lines : ℕ → ℕ → List ℕ → List Entry → List ℤ → List ℕ
rating_lines p l places ms potentials = rate_line p l ++ (places_line places ++ numbered (module_line potentials) 1 ms)

-- a refusal's line
abbrev pub refused : Refusal → List ℕ
refused x = refusal_line x ++ codes "\n"
