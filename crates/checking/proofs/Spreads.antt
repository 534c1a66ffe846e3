-- Walks on the yes/no scale over a table of moves that has staying are channels that lead on. Assumes nothing.
use Rattle.std.proofs.Common.{◌≡◌, ℕ, zero, suc, ◌+◌, ◌-◌, ◌<◌, ◌≤◌, Bool, true, false, ◌&&◌, List, [], ◌∷◌, length, get_or, Decides, sym, refl, ap, subst, inl, inr, ⊎_elim, arith}
use Rattle.std.proofs.lemmas.Bool.{and_parts}
use Rattle.std.specs.Int.{IsInRange}
use Rattle.std.specs.List.{AllByRecursion}
use Rattle.scale.specs.Counts.{counts, onward, weight}
use Rattle.scale.specs.Walks.{Walk}
use Rattle.scale.specs.YesNo.{SomeWalk, yes_no}
use Rattle.checking.specs.Links.{Reached, Table}
use Rattle.checking.specs.Nets.{Leads}
use Rattle.checking.proofs.Cuts.{cut}

-- what counts as yes at the end did so before
yes_before : (ws : List Bool) (m : ℕ) (x : Bool) (u : ℕ) (p : List ℕ) → onward yes_no ws m x u p ≡ true → x ≡ true
yes_before ws m x u [] y = y
yes_before ws m x u (v ∷ p) y = (and_parts x (weight yes_no ws m u v) (yes_before ws m (x && weight yes_no ws m u v) v p y)).0

-- k moves among m modules, all yes, from u to v
record Moves (m : ℕ) (ws : List Bool) (k u v : ℕ) : Type 0 where
  on : List ℕ
  long : length on ≡ k
  within : AllByRecursion (λ w. w < m) on
  ends : get_or (u ∷ on) k 0 ≡ v
  yes : onward yes_no ws m true u on ≡ true

module _ (Step : ℕ → ℕ → ℕ → Type 0) (m : ℕ) (ws : List Bool) (table : Table Step m ws) where
  -- each move that is no staying is a step
  led : (x : Bool) (u v : ℕ) (p : List ℕ) → u < m → AllByRecursion (λ w. w < m) p → get_or (u ∷ p) (length p) 0 ≡ v → onward yes_no ws m x u p ≡ true → (es : List ℕ) × Leads Step (u + 1) es (v + 1)
  led x u v [] h all e y = ([], ap (λ k. k + 1) e)
  led x u v (w ∷ p) h all e y =
      let move = (and_parts x (weight yes_no ws m u w) (yes_before ws m (x && weight yes_no ws m u w) w p y)).1 in
      let rest = led (x && weight yes_no ws m u w) w v p all.0 all.1 e y in
      ⊎_elim
      (λ (same : u + 1 ≡ w + 1). (rest.0, subst (λ z. Leads Step z rest.0 (v + 1)) (sym same) rest.1))
      (λ step. (step.0 ∷ rest.0, (w + 1, step.1, rest.1)))
      ((table u w h all.0).0 move)

  module _ (ends : (e u v : ℕ) → Step e u v → IsInRange 1 m v) where
    -- and steps are moves, with staying to make up the number
    moved : (k u v : ℕ) (es : List ℕ) → u < m → length es ≤ k → Leads Step (u + 1) es (v + 1) → Moves m ws k u v
    moved zero u v [] h few l = record { on = []; long = refl; within = tt; ends = omega (arith, l); yes = refl }
    moved zero u v (e ∷ es) h few l = absurd (omega arith)
    moved (suc k) u v [] h few l =
        let r = moved k u v [] h (omega arith) l in
        record {
          on = u ∷ r.on;
          long = rw r.long;
          within = (h, r.within);
          ends = r.ends;
          yes = rw ((table u u h h).1 (inl refl)) r.yes;
        }
    moved (suc k) u v (e ∷ es) h few l =
        let to = ends e (u + 1) l.0 l.1 in
        let w = l.0 - 1 in
        let at : l.0 ≡ w + 1 = omega (arith, to.0) in
        let lw : w < m = omega (arith, to.1, to.0) in
        let r = moved k w v es lw (omega arith) (subst (λ z. Leads Step z es (v + 1)) at l.2) in
        record {
          on = w ∷ r.on;
          long = rw r.long;
          within = (lw, r.within);
          ends = r.ends;
          yes = rw ((table u w h lw).1 (inr (e, subst (λ z. Step e (u + 1) z) at l.1))) r.yes;
        }

module _ (Step : ℕ → ℕ → ℕ → Type 0) (at ws : List Bool) (table : Table Step (length at) ws) (ends : (e u v : ℕ) → Step e u v → IsInRange 1 (length at) v) (v : ℕ) where
  from_walk : (p : List ℕ) → Walk (length at) (length at - 1) v p → counts yes_no at ws p ≡ true → Reached Step at v
  from_walk [] w y = absurd (omega (arith, w.long))
  from_walk (u ∷ p) w y =
      let long : length at - 1 ≡ length p = omega (arith, w.long) in (
        u,
        w.within.0,
        yes_before ws (length at) (get_or at u false) u p y,
        led Step (length at) ws table (get_or at u false) u v p w.within.0 w.within.1 (rw long at w.ends) y,
      )

  spread_whole : (r : Bool) → SomeWalk at ws (length at - 1) v r → Decides r (Reached Step at v)
  spread_whole r some = (
    (λ y. let f = some.found y in from_walk f.0 f.1 f.2),
    (λ d.
        let c = cut Step (length at) ends d.3.0 (d.0 + 1) (v + 1) (omega (arith, d.1), omega (arith, d.1)) d.3.1 in
        let w = moved Step (length at) ws table ends (length at - 1) d.0 v c.0 d.1 (omega (arith, c.1)) c.2 in
        some.none_missed (d.0 ∷ w.on) (record { long = omega (arith, w.long); within = (d.1, w.within); ends = w.ends }) (rw d.2 w.yes)),
  )

-- after m - 1 moves among m modules, yes stands where steps lead from where it stood
pub spread_all : (Step : ℕ → ℕ → ℕ → Type 0) (m : ℕ) (at ws : List Bool) → length at ≡ m → Table Step m ws → ((e u v : ℕ) → Step e u v → IsInRange 1 m v) → (k : ℕ) → k ≡ m - 1 → (v : ℕ) (r : Bool) → SomeWalk at ws k v r → Decides r (Reached Step at v)
spread_all Step m at ws same table ends k long v r some =
    let enough : k ≡ length at - 1 = omega arith in
    spread_whole Step at ws (subst (λ j. Table Step j ws) (sym same) table) (λ e x y step. subst (λ j. IsInRange 1 j y) (sym same) (ends e x y step)) v r (subst (λ j. SomeWalk at ws j v r) enough some)
