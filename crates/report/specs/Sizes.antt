-- The text that the sizing program prints of a file. Assumes nothing.
use Rattle.std.specs.Prelude.{◌≡◌, ℕ, ◌-◌, cond, ◌⊎◌, List, [], ◌++◌, replicate, Ok, Err, codes, decimal, ◌==◌, slice_index}
use Rattle.netlist.specs.declared.netlist.Netlist.{Netlist}
use Rattle.netlist.specs.declared.refusal.Refusal.{Refusal}
use Rattle.netlist.specs.Holds.{channels}
use Rattle.sizing.specs.Answers.{SizeAnswer}
use Rattle.report.specs.declared.request.Request.{Request}
use Rattle.report.specs.Lines.{numbered, refused}
use Rattle.report.specs.Texts.{CheckText, RatedText}

-- as `added 1`
abbrev pub added_line : ℕ → List ℕ
added_line k = codes "added " ++ (decimal k ++ codes "\n")

-- as `channel 2: 1 -> 2`, and nothing for a queue that stays as it is
abbrev pub deepened : ℕ → ℕ → ℕ → List ℕ
deepened k before after =
    cond (before == after) []
    (codes "channel " ++ (decimal k ++ (codes ": " ++ (decimal before ++ (codes " -> " ++ (decimal after ++ codes "\n"))))))

-- the size of channel k before is the entry k - 1 of a list
abbrev pub deepened_line : List ℕ → ℕ → ℕ → List ℕ
deepened_line before k after = deepened k (slice_index before (k - 1)) after

-- what is printed of a netlist and its sizing: the slots that were added, the queues that became deeper, and the rating under the new
-- sizing; or the refusal alone, of the check or of the sizing. All channels have the request's cap
pub record SizedText (n : Netlist) (r : Request) (sizing text : List ℕ) : Type 0 where
  pub added : ℕ
  pub sizing' : List ℕ
  pub rating : List ℕ
  pub sized : SizeAnswer n r.target.0 r.target.1 (replicate (channels n) r.cap) r.allowance sizing sizing' (Ok added)
  pub rated : RatedText n sizing' rating
  pub is : text ≡ added_line added ++ (numbered (deepened_line sizing) 1 sizing' ++ rating)

abbrev pub RequestText : Request → Netlist → List ℕ → List ℕ → Type 0
RequestText r n sizing text =
    SizedText n r sizing text
    ⊎ (CheckText n text
    ⊎ ((x : Refusal) × SizeAnswer n r.target.0 r.target.1 (replicate (channels n) r.cap) r.allowance sizing sizing (Err x) × (text ≡ refused x)))
