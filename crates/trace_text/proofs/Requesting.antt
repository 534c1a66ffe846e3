-- The list of all that a trace asks, as it grows. Assumes nothing.
use Rattle.std.proofs.Common.{◌≡◌, ℕ, zero, suc, ◌+◌, ◌-◌, ◌<◌, ◌≤◌, List, [], ◌∷◌, ◌++◌, length, get_or, take, sym, ap, ◌∙◌, ap₂, append-nil, append_assoc, arith, take_all}
use Rattle.std.proofs.lemmas.List.{take_more}
use Rattle.play.specs.declared.exchange.Exchange.{Exchange}
use Rattle.trace_text.specs.declared.command.Command.{Command}
use Rattle.trace_text.specs.Lines.{exchanges_in, exchanges_of, questions}

exchanges_push : (cs : List Command) (c : Command) → exchanges_in cs ++ exchanges_of c ≡ exchanges_in (cs ++ c ∷ [])
exchanges_push [] c = sym (append-nil (exchanges_of c))
exchanges_push (d ∷ cs) c = append_assoc (exchanges_of d) (exchanges_in cs) (exchanges_of c) ∙ ap (λ zs. exchanges_of d ++ zs) (exchanges_push cs c)

-- one command more
pub one_command : (before old new : List (Exchange ℕ)) (cs : List Command) (i : ℕ) (d : Command) → i < length cs → new ≡ old ++ exchanges_of (get_or cs i d)
    → old ≡ before ++ exchanges_in (take i cs) → new ≡ before ++ exchanges_in (take (i + 1) cs)
one_command before old new cs i d lt added inv =
    added ∙ ap (λ zs. zs ++ exchanges_of (get_or cs i d)) inv ∙ append_assoc before (exchanges_in (take i cs)) (exchanges_of (get_or cs i d))
    ∙ ap (λ zs. before ++ zs) (exchanges_push (take i cs) (get_or cs i d) ∙ ap exchanges_in (sym (take_more cs i d lt)))

pub all_commands : (before now : List (Exchange ℕ)) (cs : List Command) (i : ℕ) → length cs ≤ i → now ≡ before ++ exchanges_in (take i cs) → now ≡ before ++ exchanges_in cs
all_commands before now cs i le inv = inv ∙ ap (λ (zs : List Command). before ++ exchanges_in zs) (take_all i cs le)

-- one question more
pub one_question : (before old new : List (Exchange ℕ)) (asks : ℕ → Command) (k : ℕ) (c : Command) → 1 ≤ k → c ≡ asks k → new ≡ old ++ exchanges_of c → old ≡ before ++ questions asks (k - 1) → new ≡ before ++ questions asks (k + 1 - 1)
one_question before old new asks zero c le is added inv = absurd (omega arith)
one_question before old new asks (suc k) c le is added inv =
    let e : suc k - 1 ≡ k = omega arith in
    let f : suc k + 1 - 1 ≡ suc k = omega arith in
    rw f (added ∙ ap₂ (λ zs (d : Command). zs ++ exchanges_of d) (rw e at inv) is ∙ append_assoc before (questions asks k) (exchanges_of (asks (suc k))))

-- the four parts of the list
pub four : (a b c d none : List (Exchange ℕ)) (cs : List Command) (ask₁ ask₂ ask₃ : ℕ → Command) (n m : ℕ) → none ≡ [] → a ≡ none ++ exchanges_in cs → b ≡ a ++ questions ask₁ n → c ≡ b ++ questions ask₂ m → d ≡ c ++ questions ask₃ m
    → d ≡ exchanges_in cs ++ (questions ask₁ n ++ (questions ask₂ m ++ questions ask₃ m))
four a b c d none cs ask₁ ask₂ ask₃ n m empty h₁ h₂ h₃ h₄ =
    let e = exchanges_in cs in
    let q₁ = questions ask₁ n in
    let q₂ = questions ask₂ m in
    let q₃ = questions ask₃ m in
    h₄ ∙ ap (λ zs. zs ++ q₃) (h₃ ∙ ap (λ zs. zs ++ q₂) (h₂ ∙ ap (λ zs. zs ++ q₁) (h₁ ∙ ap (λ zs. zs ++ e) empty)))
    ∙ append_assoc (e ++ q₁) q₂ q₃ ∙ append_assoc e q₁ (q₂ ++ q₃)
