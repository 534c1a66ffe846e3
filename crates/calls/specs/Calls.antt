-- What a list of calls of a run comes to, the refused calls among them, from the netlist and the sizing alone. Assumes nothing.
use Rattle.std.specs.Prelude.{ℕ, zero, suc, ◌+◌, ◌-◌, Bool, true, false, cond, ◌||◌, List, [], ◌∷◌, Some, None, Option, ◌==◌, nat_le, nat_lt}
use Rattle.netlist.specs.declared.refusal.Cause.TheVariants.{BeyondLimit, ItemsTooShort, NumberOutOfRange, OutOfTurn}
use Rattle.netlist.specs.declared.refusal.Refusal.{Refusal}
use Rattle.counts.specs.Nets.{Net, first_items}
use Rattle.counts.specs.Steps.{stepped}
use Rattle.counts.specs.Origins.{base}

-- hold and firings name a module, fill and front a channel; n is the number of entries of the item table that the call is lent
pub data Call : Type 0 where
  prime : ℕ → Call
  hold : ℕ → Call
  step : ℕ → Call
  firings : ℕ → Call
  fill : ℕ → Call
  front : ℕ → ℕ → Call

-- is the run primed; its accepted steps t, and those of them, h, with a marked module; the modules marked for the next step; how
-- often each module has fired
pub record Count : Type 0 where
  pub primed : Bool
  pub steps : ℕ
  pub held : ℕ
  pub marks : ℕ → Bool
  pub firings : ℕ → ℕ

abbrev pub at_first : Count
at_first = record { primed = false; steps = 0; held = 0; marks = λ _. false; firings = λ _. 0 }

-- how many items have come into the channel at place e, and how many of them its sink has not taken
abbrev pub put : Net → Count → ℕ → ℕ
put net c e = cond c.primed (c.firings (net.source e) + first_items net e) 0

abbrev pub fill_of : Net → Count → ℕ → ℕ
fill_of net c e = put net c e - c.firings (net.sink e)

-- does f say so of one of the first n numbers?
unfoldable pub any : (ℕ → Bool) → ℕ → Bool
any f zero = false
any f (suc n) = f 0 || any (λ k. f (suc k)) n

abbrev pub some_marked : Net → Count → Bool
some_marked net c = any (λ k. c.marks (suc k)) net.modules

-- numbers of modules and channels start with 1
abbrev pub no_module : Net → ℕ → Bool
no_module net v = v == 0 || nat_lt net.modules v

abbrev pub no_channel : Net → ℕ → Bool
no_channel net e = e == 0 || nat_lt net.channels e

-- the entries of the item table that all channels own together
abbrev pub entries : Net → ℕ
entries net = base net.size net.channels

abbrev pub most_steps : ℕ
most_steps = 100000000

-- the refusals 12 to 15
abbrev pub out_of_turn : Refusal
out_of_turn = record { cause = OutOfTurn; place = 0 }

abbrev pub no_such_number : Refusal
no_such_number = record { cause = NumberOutOfRange; place = 0 }

abbrev pub short_table : Net → Refusal
short_table net = record { cause = ItemsTooShort; place = entries net }

abbrev pub spent : Refusal
spent = record { cause = BeyondLimit; place = 0 }

-- why a call is refused, if it is: the first ground that fits
abbrev pub refusal : Net → Count → Call → Option Refusal
refusal net c (prime n) = cond c.primed (Some out_of_turn) (cond (nat_lt n (entries net)) (Some (short_table net)) None)
refusal net c (hold v) = cond c.primed (cond (no_module net v) (Some no_such_number) None) (Some out_of_turn)
refusal net c (step n) = cond c.primed (cond (nat_lt n (entries net)) (Some (short_table net)) (cond (nat_le most_steps c.steps) (Some spent) None)) (Some out_of_turn)
refusal net c (firings v) = cond (no_module net v) (Some no_such_number) None
refusal net c (fill e) = cond (no_channel net e) (Some no_such_number) None
refusal net c (front e n) = cond c.primed (cond (no_channel net e) (Some no_such_number) (cond (nat_lt n (entries net)) (Some (short_table net)) None)) (Some out_of_turn)

-- what an accepted call does; questions change nothing
abbrev pub done : Net → Count → Call → Count
done net c (prime n) = record { primed = true; steps = c.steps; held = c.held; marks = c.marks; firings = c.firings }
done net c (hold v) = record { primed = c.primed; steps = c.steps; held = c.held; marks = λ w. (w == v) || c.marks w; firings = c.firings }
done net c (step n) = record { primed = c.primed; steps = c.steps + 1; held = c.held + cond (some_marked net c) 1 0; marks = λ _. false; firings = stepped net c.marks c.firings }
done net c (firings v) = c
done net c (fill e) = c
done net c (front e n) = c

-- nor does a refused call
abbrev pub unless : {X : Type 0} → Option Refusal → X → X → X
unless None x y = x
unless (Some _) x y = y

abbrev pub after : Net → Count → Call → Count
after net c x = unless (refusal net c x) (done net c x) c

-- the calls of a list, one after another
unfoldable pub counted_from : Net → Count → List Call → Count
counted_from net c [] = c
counted_from net c (x ∷ xs) = counted_from net (after net c x) xs

abbrev pub counted : Net → List Call → Count
counted net calls = counted_from net at_first calls
