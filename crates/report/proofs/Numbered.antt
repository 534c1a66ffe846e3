-- One line more.
use Rattle.std.proofs.Common.{◌≡◌, ℕ, suc, ◌+◌, ◌<◌, List, [], ◌∷◌, ◌++◌, map, length, get_or, take, ℤ, codes, decimal, refl, append_assoc, append-nil, add-zero, arith}
use Rattle.std.proofs.lemmas.List.{length-take, take_more}
use Rattle.netlist.specs.declared.netlist.Module.{Module}
use Rattle.netlist.specs.Holds.{entry_of}
use Rattle.report.specs.Lines.{module_line, numbered, rating_lines, spaced}

pub numbered_push : {A : Type 0} (line : ℕ → A → List ℕ) (k : ℕ) (xs : List A) (x : A) → numbered line k (xs ++ x ∷ []) ≡ numbered line k xs ++ line (k + length xs) x
numbered_push line k [] x = rw (add-zero, append-nil) refl
numbered_push line k (y ∷ xs) x =
    let e : suc k + length xs ≡ k + suc (length xs) = omega arith in
    rw (numbered_push line (suc k) xs x, append_assoc, e) refl

pub numbered_more : {A : Type 0} (line : ℕ → A → List ℕ) (xs : List A) (i : ℕ) (x : A) → i < length xs → x ≡ get_or xs i x → numbered line 1 (take (i + 1) xs) ≡ numbered line 1 (take i xs) ++ line (i + 1) x
numbered_more line xs i x h e =
    let long : 1 + length (take i xs) ≡ i + 1 = omega (arith, length-take i xs) in
    rw (take_more xs i x h, ← e, numbered_push line 1 (take i xs) x, long) refl

pub numbered_map : {A B : Type 0} (f : A → B) (line : ℕ → B → List ℕ) (k : ℕ) (xs : List A) → numbered (λ k x. line k (f x)) k xs ≡ numbered line k (map f xs)
numbered_map f line k [] = refl
numbered_map f line k (x ∷ xs) = rw (numbered_map f line (suc k) xs) refl

-- a line pushed onto a text of the lines before it
pub lines_more : {A : Type 0} (line : ℕ → A → List ℕ) (xs : List A) (i : ℕ) (x : A) (first old pushed new : List ℕ) → i < length xs → x ≡ get_or xs i x
    → old ≡ first ++ numbered line 1 (take i xs) → pushed ≡ line (i + 1) x → new ≡ old ++ pushed → new ≡ first ++ numbered line 1 (take (i + 1) xs)
lines_more line xs i x first old pushed new h e o p n = rw (n, o, p, numbered_more line xs i x h e) (append_assoc first (numbered line 1 (take i xs)) (line (i + 1) x))

parts_joined : (r a s b n q c e d : List ℕ) → ((((r ++ (a ++ (s ++ (b ++ (n ++ q))))) ++ c) ++ e) ++ d) ≡ (r ++ (a ++ (s ++ (b ++ n)))) ++ ((q ++ (c ++ e)) ++ d)
parts_joined r a s b n q c e d = simp append_assoc

-- the lines of a rating, one text after another
pub rating_joined : (p l : ℕ) (places : List ℕ) (ms : List Module) (zs : List ℤ) (a b d f : List ℕ)
    → a ≡ codes "rate " ++ (decimal p ++ (codes "/" ++ (decimal l ++ codes "\nplaces"))) → b ≡ a ++ numbered spaced 1 places → d ≡ b ++ codes "\n"
    → f ≡ d ++ numbered (λ k m. module_line zs k (entry_of m)) 1 ms → f ≡ rating_lines p l places (map entry_of ms) zs
rating_joined p l places ms zs a b d f first second third last =
    rw (last, third, second, first, numbered_map entry_of (module_line zs) 1 ms)
    (parts_joined (codes "rate ") (decimal p) (codes "/") (decimal l) (codes "\n") (codes "places") (numbered spaced 1 places) (codes "\n") (numbered (module_line zs) 1 (map entry_of ms)))
