-- Lists that a loop writes. Assumes nothing.
use Rattle.std.proofs.Common.{◌≡◌, ℕ, ◌+◌, ◌<◌, ◌≤◌, List, length, get_or, set, ap, ◌∙◌, get_or-set_same}

-- an element after a write, where the two indices are equal by a proof
pub set_here : {A : Type 0} (l : List A) (i j : ℕ) (x d : A) → j ≡ i → i < length l → get_or (set l i x) j d ≡ x
set_here l i j x d e h = ap (λ k. get_or (set l i x) k d) e ∙ get_or-set_same l i x d h

-- f i stands at each index s + i for i below n, and the rest is as before
abbrev pub Written : ℕ → (ℕ → ℕ) → List ℕ → ℕ → List ℕ → Type 0
Written s f before n after =
    ((i : ℕ) → i < n → get_or after (s + i) 0 ≡ f i)
    × ((i : ℕ) → i < s → get_or after i 0 ≡ get_or before i 0)
    × ((i : ℕ) → s + n ≤ i → get_or after i 0 ≡ get_or before i 0)
