use Rattle.std.proofs.Common.{◌≡◌, ℕ, zero, suc, ◌<◌, length, List, [], ◌∷◌, get_or, subst, arith, rules}
use Rattle.std.specs.List.{FoldsTo}
use Rattle.scale.proofs.rounds.clear.Goals as goal

-- a call that always gives x and leaves itself as it was fills a list with x
filled : {F A : Type 0} (R : F → A → F → Type 0) (x d : A) (f : F) → ((y : A) (h : F) → R f y h → (y ≡ x) × (h ≡ f)) → (ys : List A) (last : F) → FoldsTo R f ys last → (v : ℕ) → v < length ys → get_or ys v d ≡ x
filled R x d f gives [] last ran v l = absurd (omega arith)
filled R x d f gives (y ∷ ys) last ran zero l = (gives y ran.0 ran.1).0
filled R x d f gives (y ∷ ys) last ran (suc v) l = filled R x d f gives ys last (subst (λ h. FoldsTo R h ys last) (gives y ran.0 ran.1).1 ran.2) v (omega arith)

pub returns : goal.returns
returns g c =
    let none = g.S.Scale.scale.no_way in
    λ v l. filled _ none none _ (λ y h r. search rules) c.fill_with.new.self _ c.fill_with.ensures.ran.1 v (omega arith)
