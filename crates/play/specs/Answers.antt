-- What the requests of a list are answered, each from the calls before it alone. Assumes nothing.
use Rattle.std.specs.Prelude.{ℕ, ◌-◌, min, List, [], ◌∷◌, Some, Result}
use Rattle.netlist.specs.declared.refusal.Refusal.{Refusal}
use Rattle.calls.specs.Calls.{Call, Count, after, at_first, fill, fill_of, firings, front, hold, prime, refusal, step}
use Rattle.queues.specs.Strict.{Chip}
use Rattle.run.specs.Replies.{front_item, reply}
use Rattle.play.specs.declared.exchange.Exchange.{Exchange}
use Rattle.play.specs.declared.exchange.Reply.{Reply}
use Rattle.play.specs.declared.exchange.Reply.TheVariants.{Done, Number, Item as TheItem}
use Rattle.play.specs.declared.exchange.Request.{Request}
use Rattle.play.specs.declared.exchange.Request.TheVariants.{Prime, Hold, Step, Firings, Fill, Front}

-- a request as a call, where the table has n entries
abbrev pub asked : ℕ → Request → Call
asked n (Prime k) = prime (min k n)
asked n (Hold v) = hold v
asked n (Step k) = step (min k n)
asked n (Firings v) = firings v
asked n (Fill e) = fill e
asked n (Front e k) = front e (min k n)

unfoldable pub calls_of : {Item : Type 0} → ℕ → List (Exchange Item) → List Call
calls_of n [] = []
calls_of n (x ∷ xs) = asked n x.request ∷ calls_of n xs

-- what a call says at the counts c if it is not refused
abbrev pub said : {Item State : Type 0} → Chip Item State → Count → Call → Reply Item
said chip c (prime n) = Done
said chip c (hold v) = Done
said chip c (step n) = Done
said chip c (firings v) = Number (c.firings v)
said chip c (fill e) = Number (fill_of chip.net c (e - 1))
said chip c (front e n) = TheItem (front_item chip c e)

-- what a call answers at the counts c
abbrev pub answer : {Item State : Type 0} → Chip Item State → Count → Call → Result (Reply Item) Refusal
answer chip c call = reply (refusal chip.net c call) (said chip c call)

-- the list with its answers, one call after another
unfoldable pub answered_from : {Item State : Type 0} → Chip Item State → ℕ → Count → List (Exchange Item) → List (Exchange Item)
answered_from chip n c [] = []
answered_from chip n c (x ∷ xs) = record { request = x.request; answer = Some (answer chip c (asked n x.request)) } ∷ answered_from chip n (after chip.net c (asked n x.request)) xs

abbrev pub answered : {Item State : Type 0} → Chip Item State → ℕ → List (Exchange Item) → List (Exchange Item)
answered chip n xs = answered_from chip n at_first xs
