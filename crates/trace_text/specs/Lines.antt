-- The lines that a trace prints. Assumes nothing.
use Rattle.std.specs.Prelude.{ℕ, zero, suc, ◌+◌, ◌-◌, Bool, true, false, cond, List, [], ◌∷◌, ◌++◌, length, take, drop, replicate, Some, None, Ok, Err, Option, Result, codes, decimal, slice_index_or}
use Rattle.netlist.specs.declared.netlist.Module.{Module}
use Rattle.netlist.specs.Holds.{entry_of}
use Rattle.netlist.specs.Layout.{Entry}
use Rattle.netlist.specs.Refusals.{refusal_line}
use Rattle.report.specs.Lines.{numbered}
use Rattle.netlist.specs.declared.refusal.Refusal.{Refusal}
use Rattle.play.specs.declared.exchange.Exchange.{Exchange}
use Rattle.play.specs.declared.exchange.Reply.{Reply}
use Rattle.play.specs.declared.exchange.Reply.TheVariants.{Done, Number, Item}
use Rattle.play.specs.declared.exchange.Request.{Request}
use Rattle.play.specs.declared.exchange.Request.TheVariants.{Prime as PrimeBy, Hold as HoldBy, Step as StepBy, Firings as FiringsOf, Fill as FillOf, Front as FrontOf}
use Rattle.trace_text.specs.declared.command.Command.{Command}
use Rattle.trace_text.specs.declared.command.Command.TheVariants.{Prime, Hold, Step, Steps, Firings, Fill, Front}

-- as `hold 2`
abbrev pub command_words : Command → List ℕ
command_words Prime = codes "prime"
command_words (Hold v) = codes "hold " ++ decimal v
command_words Step = codes "step"
command_words (Steps n) = codes "step " ++ decimal n
command_words (Firings v) = codes "firings " ++ decimal v
command_words (Fill e) = codes "fill " ++ decimal e
command_words (Front e) = codes "front " ++ decimal e

-- what a call answered, if it was made
abbrev pub Answered : Type 0
Answered = Option (Result (Reply ℕ) Refusal)

abbrev pub done : Answered
done = Some (Ok Done)

-- as `done`, `3`, `item 2`, `empty` or `refused 13 at 0`
abbrev pub answer_words : Answered → List ℕ
answer_words None = codes "open"
answer_words (Some (Ok Done)) = codes "done"
answer_words (Some (Ok (Number n))) = decimal n
answer_words (Some (Ok (Item (Some x)))) = codes "item " ++ decimal x
answer_words (Some (Ok (Item None))) = codes "empty"
answer_words (Some (Err why)) = refusal_line why

abbrev pub refuses : Answered → Bool
refuses None = false
refuses (Some (Ok _)) = false
refuses (Some (Err _)) = true

-- the answer of several calls as one: the first refusal, or else the last answer, and a given one where there is no call
abbrev pub outcome_from : Answered → List (Exchange ℕ) → Answered
outcome_from last [] = last
outcome_from last (x ∷ xs) = cond (refuses x.answer) x.answer (outcome_from x.answer xs)

-- how many calls a command makes
abbrev pub count_of : Command → ℕ
count_of Prime = 1
count_of (Hold v) = 1
count_of Step = 1
count_of (Steps n) = n
count_of (Firings v) = 1
count_of (Fill e) = 1
count_of (Front e) = 1

abbrev pub calls_in : List Command → ℕ
calls_in [] = 0
calls_in (c ∷ cs) = count_of c + calls_in cs

-- the call that a command makes, once or several times; the whole item table is lent
abbrev pub request_of : Command → Request
request_of Prime = PrimeBy 18446744073709551615
request_of (Hold v) = HoldBy v
request_of Step = StepBy 18446744073709551615
request_of (Steps n) = StepBy 18446744073709551615
request_of (Firings v) = FiringsOf v
request_of (Fill e) = FillOf e
request_of (Front e) = FrontOf e 18446744073709551615

-- the calls of a command as a list to be answered, and those of some commands one after another
abbrev pub exchanges_of : Command → List (Exchange ℕ)
exchanges_of c = replicate (count_of c) (record { request = request_of c; answer = None })

abbrev pub exchanges_in : List Command → List (Exchange ℕ)
exchanges_in [] = []
exchanges_in (c ∷ cs) = exchanges_of c ++ exchanges_in cs

-- a question for each of the numbers 1 to n
abbrev pub questions : (ℕ → Command) → ℕ → List (Exchange ℕ)
questions ask zero = []
questions ask (suc n) = questions ask n ++ exchanges_of (ask (suc n))

-- all that a trace asks of a run: the commands, then the firings of each module, the fill of each channel, and the front of each
abbrev pub asked_for : List Command → ℕ → ℕ → List (Exchange ℕ)
asked_for cs modules channels = exchanges_in cs ++ (questions Firings modules ++ (questions Fill channels ++ questions Front channels))

-- as `hold 2: done`
abbrev pub answer_line : Command → List (Exchange ℕ) → List ℕ
answer_line c own = command_words c ++ (codes ": " ++ (answer_words (outcome_from done own) ++ codes "\n"))

-- a line for each command, whose calls are at the front of the exchanges
abbrev pub answer_lines : List Command → List (Exchange ℕ) → List ℕ
answer_lines [] xs = []
answer_lines (c ∷ cs) xs = answer_line c (take (count_of c) xs) ++ answer_lines cs (drop (count_of c) xs)

-- as `module 1 A fired 3`
abbrev pub fired_of : ℕ → Entry → Exchange ℕ → List ℕ
fired_of k m x = codes "module " ++ (decimal k ++ (codes " " ++ (m.name ++ (codes " fired " ++ (answer_words x.answer ++ codes "\n")))))

-- what stands where a list has no exchange
abbrev pub no_exchange : Exchange ℕ
no_exchange = record { request = PrimeBy 0; answer = None }

abbrev pub fired_line : List (Exchange ℕ) → ℕ → Entry → List ℕ
fired_line xs k m = fired_of k m (slice_index_or xs (k - 1) no_exchange)

-- as `channel 1 fill 1 front 2`, or `front none`
abbrev pub front_words : Answered → List ℕ
front_words None = codes "none"
front_words (Some (Ok Done)) = codes "none"
front_words (Some (Ok (Number n))) = codes "none"
front_words (Some (Ok (Item (Some x)))) = decimal x
front_words (Some (Ok (Item None))) = codes "none"
front_words (Some (Err why)) = codes "none"

abbrev pub channel_of : ℕ → Exchange ℕ → Exchange ℕ → List ℕ
channel_of k fill front = codes "channel " ++ (decimal k ++ (codes " fill " ++ (answer_words fill.answer ++ (codes " front " ++ (front_words front.answer ++ codes "\n")))))

abbrev pub channel_line : List (Exchange ℕ) → ℕ → Exchange ℕ → List ℕ
channel_line fronts k fill = channel_of k fill (slice_index_or fronts (k - 1) no_exchange)

-- n entries of a list from an index on
abbrev pub part : ℕ → ℕ → List (Exchange ℕ) → List (Exchange ℕ)
part from n xs = take n (drop from xs)

-- the commands with their answers, then the firings of the modules, then fill and front of the channels: the exchanges behind those of the
-- commands ask for the firings of each module, the fill of each channel, and then the front of each
abbrev pub trace_lines : List Command → List Module → ℕ → List (Exchange ℕ) → List ℕ
trace_lines cs ms channels xs =
    answer_lines cs (part 0 (calls_in cs) xs)
    ++ (numbered (λ k m. fired_line (part (calls_in cs) (length ms) xs) k (entry_of m)) 1 ms
    ++ numbered (channel_line (part (calls_in cs + length ms + channels) channels xs)) 1 (part (calls_in cs + length ms) channels xs))
