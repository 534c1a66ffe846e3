-- A forecast, as it is printed.
use Rattle.std.proofs.Common.{◌≡◌, ℕ, suc, ◌+◌, ◌<◌, ◌≤◌, List, [], ◌∷◌, ◌++◌, length, vec_items, refl, ap, ◌∙◌, subst, ap₂, arith}
use Rattle.counts.specs.Nets.{net_of}
use Rattle.counts.specs.Steps.{freely}
use Rattle.forecasting.specs.Forecasts.{Foretold}
use Rattle.netlist.specs.declared.netlist.Module.{Module}
use Rattle.netlist.specs.declared.netlist.Netlist.{Netlist}
use Rattle.netlist.specs.Holds.{entry_of}
use Rattle.report.specs.Forecasts.{count_line, counted, forecast_lines}
use Rattle.report.specs.Lines.{numbered}
use Rattle.report.proofs.Numbered.{numbered_map}

-- lines that are the same at each number
numbered_alike : {A : Type 0} (f g : ℕ → A → List ℕ) (k : ℕ) (xs : List A) → ((j : ℕ) → k ≤ j → j < k + length xs → (x : A) → f j x ≡ g j x) → numbered f k xs ≡ numbered g k xs
numbered_alike f g k [] same = refl
numbered_alike f g k (x ∷ xs) same =
    ap₂ (λ (a b : List ℕ). a ++ b) (same k (omega arith) (omega arith) x) (numbered_alike f g (suc k) xs (λ j low high. same j (omega arith) (omega arith)))

counted_own : (n : Netlist) (qs : List ℕ) (t : ℕ) (before after : List ℕ) (ms : List Module) → Foretold n qs t before after → ms ≡ vec_items n.modules
    → numbered (λ k m. count_line after k (entry_of m)) 1 ms ≡ forecast_lines n qs t
counted_own n qs t before after ms h list =
    numbered_alike (λ k m. count_line after k (entry_of m)) (λ k m. counted (freely (net_of n qs) t k) k (entry_of m)) 1 ms
    (λ j low high m. ap (λ x. counted x j (entry_of m)) (h.counts j (low, omega (arith, ap length list, n.modules.ok.0))))
    ∙ ap (numbered (λ k m. counted (freely (net_of n qs) t k) k (entry_of m)) 1) list
    ∙ numbered_map entry_of (λ k m. counted (freely (net_of n qs) t k) k m) 1 (vec_items n.modules)

pub counted_text : (m n : Netlist) (qs : List ℕ) (t : ℕ) (before after : List ℕ) (ms : List Module) (text : List ℕ) → m ≡ n → Foretold m qs t before after → ms ≡ vec_items n.modules
    → text ≡ numbered (λ k m. count_line after k (entry_of m)) 1 ms → text ≡ forecast_lines n qs t
counted_text m n qs t before after ms text same h list is = is ∙ counted_own n qs t before after ms (subst (λ (i : Netlist). Foretold i qs t before after) same h) list
