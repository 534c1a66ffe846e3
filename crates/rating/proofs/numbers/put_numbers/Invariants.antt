use Rattle.std.proofs.Common.{◌≡◌, ℕ, suc, ◌≤◌, map, get_or, take}
use Rattle.rating.proofs.numbers.put_numbers.Given as goal

-- the numbers so far are put, and the places after them are as in the walk
abbrev pub invariant-loop-number : goal.invariant-loop-number
invariant-loop-number l =
    (take l.number-index l.front ≡ map suc (take l.number-index l.walk))
    × ((k : ℕ) → l.number-index ≤ k → get_or l.front k 0 ≡ get_or l.walk k 0)
