use Rattle.std.proofs.Common.{◌≡◌, ℕ, ◌∷◌, List, Some, take, string_bytes}
use Rattle.std.specs.List.{flat_map}
use Rattle.drafts.proofs.text.spaced.Given as goal

abbrev pub invariant-loop-word : goal.invariant-loop-word
invariant-loop-word g l = (f : g.row.T.Denot → List ℕ) → ((x : g.row.T.Denot) → g.T.Display.output x ≡ Some (f x)) → string_bytes l.text ≡ flat_map (λ x. 32 ∷ f x) (take l.word-index l.words)
