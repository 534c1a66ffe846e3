-- The text that the trace program prints of a file. Assumes nothing.
use Rattle.std.specs.Prelude.{◌≡◌, ℕ, ◌≤◌, ◌⊎◌, List, ◌++◌, replicate, Err, vec_items}
use Rattle.cores.specs.declared.sum.SumSet.{SumSet}
use Rattle.cores.specs.Sets.{sum_held, sum_rules}
use Rattle.netlist.specs.declared.netlist.Netlist.{Netlist}
use Rattle.netlist.specs.declared.refusal.Refusal.{Refusal}
use Rattle.netlist.specs.Holds.{channels, modules}
use Rattle.sizing.specs.Answers.{SizeAnswer}
use Rattle.play.specs.declared.exchange.Exchange.{Exchange}
use Rattle.play.specs.Trials.{Found}
use Rattle.report.specs.declared.request.Request.{Request}
use Rattle.report.specs.Lines.{numbered, refused}
use Rattle.report.specs.Sizes.{added_line, deepened_line}
use Rattle.report.specs.Texts.{CheckText}
use Rattle.trace_text.specs.declared.command.Command.{Command}
use Rattle.trace_text.specs.Lines.{asked_for, trace_lines}

-- the text of a netlist that was sized and run: all that is promised of whole runs holds of the answers that it prints, which are those to
-- exactly what the commands ask, with a fresh sum set and an item table of 3,264 zeros. All channels have the request's cap
pub record TracedText (n : Netlist) (r : Request) (cs : List Command) (sizing text : List ℕ) : Type 0 where
  pub added : ℕ
  pub found : List ℕ
  pub start : SumSet
  pub fresh : (v : ℕ) → 1 ≤ v → v ≤ 64 → sum_held start v ≡ 0
  pub left : SumSet
  pub answers : List (Exchange ℕ)
  pub table : List ℕ
  pub played : Found (λ _. sum_rules) sum_held n r.target.0 r.target.1 (replicate (channels n) r.cap) r.allowance sizing found added start left
      (asked_for cs (modules n) (channels n)) answers (replicate 3264 0) table
  pub is : text ≡ added_line added ++ (numbered (deepened_line sizing) 1 found ++ trace_lines cs (vec_items n.modules) (channels n) answers)

-- or the refusal alone, of the check or of the sizing
abbrev pub TraceText : Request → List Command → Netlist → List ℕ → List ℕ → Type 0
TraceText r cs n sizing text =
    TracedText n r cs sizing text
    ⊎ (CheckText n text
    ⊎ ((x : Refusal) × SizeAnswer n r.target.0 r.target.1 (replicate (channels n) r.cap) r.allowance sizing sizing (Err x) × (text ≡ refused x)))
