-- How a netlist fires under a sizing, step by step: firings are counted by module number, channels stand at places from 0. Assumes nothing.
use Rattle.std.specs.Prelude.{◌≡◌, ℕ, zero, suc, ◌+◌, ◌-◌, ◌<◌, ◌≤◌, Bool, true, false, cond, not, ◌&&◌, ◌||◌, ◌==◌, nat_le}
use Rattle.counts.specs.Nets.{Net, first_items}

-- the items in a channel: the firings of its source, one more if that is a block, less those of its sink
abbrev pub fill : Net → (ℕ → ℕ) → ℕ → ℕ
fill net x e = x (net.source e) + first_items net e - x (net.sink e)

-- as far as the first n channels say: each channel to v has an item, and each from v at most as many as its queue size
unfoldable pub ready : (source sink size fills : ℕ → ℕ) → ℕ → ℕ → Bool
ready source sink size fills v zero = true
ready source sink size fills v (suc n) = ready source sink size fills v n && ((not (sink n == v) || nat_le 1 (fills n)) && (not (source n == v) || nat_le (fills n) (size n)))

-- what `ready` decides
pub record Ready (source sink size fills : ℕ → ℕ) (v n : ℕ) : Type 0 where
  pub feeds : (e : ℕ) → e < n → sink e ≡ v → 1 ≤ fills e
  pub room : (e : ℕ) → e < n → source e ≡ v → fills e ≤ size e

-- module v is ready where the modules have fired so often
abbrev pub is_ready : Net → (ℕ → ℕ) → ℕ → Bool
is_ready net x v = ready net.source net.sink net.size (fill net x) v net.channels

abbrev pub is_module : Net → ℕ → Bool
is_module net v = nat_le 1 v && nat_le v net.modules

-- a module fires in a step if it is ready and not held
abbrev pub fires : Net → (ℕ → Bool) → (ℕ → ℕ) → ℕ → Bool
fires net held x v = is_module net v && (not (held v) && is_ready net x v)

-- in a step all modules that fire gain one firing together
abbrev pub stepped : Net → (ℕ → Bool) → (ℕ → ℕ) → ℕ → ℕ
stepped net held x v = x v + cond (fires net held x v) 1 0

-- the firings after t free steps
unfoldable pub freely : Net → ℕ → ℕ → ℕ
freely net zero = λ _. 0
freely net (suc t) = stepped net (λ _. false) (freely net t)
