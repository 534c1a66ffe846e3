-- What is worked out of these netlists by hand, row by row (docs/worked.md). Assumes nothing.
use Rattle.std.specs.Prelude.{◌≡◌, ℕ, ◌<◌, List, [], ◌∷◌, ◌++◌, take, ℤ, pos, neg_ℤ, Some, None, Ok, Err, slice_index_or, slice_set}
use Rattle.std.specs.List.{AllByRecursion}
use Rattle.netlist.specs.declared.netlist.Netlist.{Netlist}
use Rattle.netlist.specs.declared.refusal.Cause.{Cause}
use Rattle.netlist.specs.declared.refusal.Cause.TheVariants.{ByteAfterEnd, EndsEarly, NotJoined, ValueOutOfRange}
use Rattle.netlist.specs.declared.refusal.Refusal.{Refusal}
use Rattle.netlist.specs.Faults.{verdict}
use Rattle.netlist.specs.Holds.{Holds, channels}
use Rattle.netlist.specs.Layout.{Contents, Says, layout}
use Rattle.checking.specs.Verdicts.{Refused}
use Rattle.marked.specs.Graphs.{Potential}
use Rattle.marked.specs.Rates.{IsRate}
use Rattle.rating.specs.Extended.{graph_of}
use Rattle.rating.specs.Ratings.{ShowsCycle}
use Rattle.sizing.specs.Answers.{SizeAnswer}
use Rattle.sizing.specs.Candidates.{Unreached}
use Rattle.sizing.specs.Requests.{request_fault}
use Rattle.cores.specs.Sets.{sum_rules}
use Rattle.counts.specs.Nets.{Net, net_of}
use Rattle.calls.specs.Calls.{Count, counted, fill_of, prime, step}
use Rattle.queues.specs.Strict.{Chip, strict}
use Rattle.run.specs.Replies.{front_item}
use Rattle.worked.specs.Netlists.{Alone, D, F, f_file, Made, Pair, Ring}

-- the refusal of a cause at a place
abbrev pub refusal : Cause → ℕ → Refusal
refusal cause place = record { cause = cause; place = place }

-- the request for a/b is in order, and no candidate reaches it
abbrev pub Beyond : Netlist → ℕ → ℕ → List ℕ → ℕ → List ℕ → Type 0
Beyond n a b caps allowance sizing = (request_fault (channels n) a b caps allowance sizing ≡ None) × Unreached n a b caps allowance sizing

-- the file of F says F; cut by a byte, with a byte more, and with a channel from a module 4 it is refused with 1, 4 and 3
pub record Files : Type 0 where
  pub whole : verdict f_file ≡ Ok F
  pub says : Says f_file F
  pub cut : verdict (take 24 f_file) ≡ Err (refusal EndsEarly 24)
  pub longer : (byte : ℕ) → verdict (f_file ++ (byte ∷ [])) ≡ Err (refusal ByteAfterEnd 25)
  pub astray : verdict (slice_set f_file 14 4) ≡ Err (refusal ValueOutOfRange 14)
  -- the other netlists have files too
  pub others : AllByRecursion (λ c. Says (layout c) c) (D ∷ Ring ∷ Alone ∷ Pair ∷ [])

-- D with queues of 1, and caps of 2. Its rate is 3/4; the target 1/1 asks for one slot, on channel 1 or on channel 2.
-- The potentials are those of modules 1 to 4, which a graph numbers from 0
abbrev pub d_potentials : List ℤ
d_potentials = neg_ℤ (pos 1) ∷ neg_ℤ (pos 2) ∷ neg_ℤ (pos 3) ∷ pos 0 ∷ []

abbrev pub d_caps : List ℕ
d_caps = 2 ∷ 2 ∷ 2 ∷ 2 ∷ []

pub record DRows (n : Netlist) : Type 0 where
  pub rate : IsRate (graph_of n D.sizes) 3 4
  pub cycle : ShowsCycle (graph_of n D.sizes) 3 4 4 (5 ∷ 7 ∷ 4 ∷ 2 ∷ [])
  pub potentials : (v : ℕ) → v < 4 → Potential 3 4 (graph_of n D.sizes) v (slice_index_or d_potentials v (pos 0))
  pub on_channel_1 : SizeAnswer n 1 1 d_caps 1 D.sizes (2 ∷ 1 ∷ 1 ∷ 1 ∷ []) (Ok 1)
  pub on_channel_2 : SizeAnswer n 1 1 d_caps 1 D.sizes (1 ∷ 2 ∷ 1 ∷ 1 ∷ []) (Ok 1)
  pub no_slot : Beyond n 1 1 d_caps 0 D.sizes

-- the ring with queues of 1, and caps of 16. It reaches 2/3 as it is, and 3/4 by no sizing
abbrev pub ring_caps : List ℕ
ring_caps = 16 ∷ 16 ∷ 16 ∷ []

pub record RingRows (n : Netlist) : Type 0 where
  pub as_it_is : SizeAnswer n 2 3 ring_caps 8 Ring.sizes Ring.sizes (Ok 0)
  pub too_fast : Beyond n 3 4 ring_caps 8 Ring.sizes

-- F with queues of 1 and the cores that sum, at first 0, is primed and makes three free steps. Then channels 1 and 3 hold the
-- item 2 and channel 2 none, and the state of block 2 is 6
abbrev pub sums : Net → Chip ℕ ℕ
sums net = record { net = net; rules = sum_rules; start = λ _. 0 }

abbrev pub three_steps : Net → Count
three_steps net = counted net (prime 6 ∷ step 6 ∷ step 6 ∷ step 6 ∷ [])

pub record RunRows (net : Net) : Type 0 where
  pub fills : (fill_of net (three_steps net) 0 ≡ 1) × (fill_of net (three_steps net) 1 ≡ 0) × (fill_of net (three_steps net) 2 ≡ 1)
  pub channel_1 : front_item (sums net) (three_steps net) 1 ≡ Some 2
  pub channel_2 : front_item (sums net) (three_steps net) 2 ≡ None
  pub channel_3 : front_item (sums net) (three_steps net) 3 ≡ Some 2
  pub state : (strict (sums net) ((three_steps net).firings 2)).state 2 ≡ 6

-- all rows. One block alone has the rate 1/1, and of two without a channel the second is not joined, which is 6 at 2
pub record Worked : Type 0 where
  pub files : Files
  -- what the reading of a file leaves is the netlist that the rows speak of
  pub read : (c : Contents) (n : Netlist) (was is : List ℕ) → Holds c n was is → Made c n
  pub d : (n : Netlist) → Made D n → DRows n
  pub ring : (n : Netlist) → Made Ring n → RingRows n
  pub alone : (n : Netlist) → Made Alone n → IsRate (graph_of n []) 1 1
  pub pair : (n : Netlist) → Made Pair n → Refused n (refusal NotJoined 2)
  pub run : (n : Netlist) → Made F n → RunRows (net_of n F.sizes)
