use Rattle.std.proofs.Common.{◌≡◌, ℕ, List, ◌++◌, IfOk, take, string_bytes}
use Rattle.report.specs.Lines.{numbered}
use Rattle.report.proofs.listing.add_lines.Given as goal

abbrev pub invariant-loop-at : goal.invariant-loop-at
invariant-loop-at g l =
    (says : ℕ → g.row.T.Denot → List ℕ) → ((k : ℕ) (x : _) (r : _) → goal.F-post g l.line k x r → IfOk r (λ s. string_bytes s ≡ says k x.now))
    → string_bytes l.text ≡ string_bytes l.initial.text ++ numbered says 1 (take l.at l.list)
