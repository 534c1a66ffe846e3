use Rattle.std.proofs.Common.{◌≡◌, ℕ, ◌+◌, ◌-◌, ◌<◌, ◌≤◌, false, refl, Option, Some, None, sym, ap, ◌∙◌, subst, arith, rules, tests}
use Rattle.std.proofs.iter.Yields.{nat_range_steps}
use Rattle.std.proofs.iter.runs.Sources.{range_runs}
use Rattle.std.proofs.lemmas.Map.Keys.{ge_from_not_lt}
use Rattle.std.specs.Fn.{CalledAt}
use Rattle.std.specs.Iterator.Runs.{Run, AnyItem, NoKeyBeyond}
use Rattle.std.specs.Option.{MatchOption, IfSome, unwrap_or, option_map}
use Rattle.std.specs.Ordering.{nat_cmp, is_lt}
use denote.Param.Members.{Mut}
use denote.Ref.{Bor}
use Rattle.marked.specs.Rounds.{stop}
use Rattle.marked.proofs.trail.Trail.lowest.Goals as goal

-- what holds of an item, where it is i
at_item : (P : ℕ → Type 0) (i : ℕ) (o : Option ℕ) → IfSome o P → option_map (λ y. y) o ≡ Some i → P i
at_item P i None h e = absurd (search rules)
at_item P i (Some x) h e = let s : x ≡ i = search rules in subst P s h

-- no item has a key below that of the item found
module _ {F : Type 0} {g : Mut F (Bor ℕ × Unit {0}) ℕ} {f : F} (p : Run nat_range_steps) (key : ℕ → ℕ) (calls : (x v : ℕ) (q : F) → CalledAt g f x v q → (q ≡ f) × (v ≡ key x)) (d i n : ℕ) (some : 0 < p.len) (item : option_map (λ y. y) (p.at n) ≡ Some i) where
  least : (r : Option ℕ) → MatchOption r (p.len ≡ 0) (λ m. AnyItem p (λ x. x ≡ m) × NoKeyBeyond p g f is_lt nat_cmp m) → key (unwrap_or r d) ≤ key i
  least None h = absurd (omega arith)
  least (Some m) h =
      let b = h.1 (λ a v q k. (calls a.0.now v q (record { shown = a.0; shows = refl; called = k })).0) in
      let j = at_item (λ x. (v : ℕ) × CalledAt g f x v f × (is_lt (nat_cmp v b.0) ≡ false)) i (p.at n) (b.2 n) item in
      omega (arith, ge_from_not_lt j.0 b.0 j.2, (calls i j.0 f j.1).1, (calls m b.0 f b.1).1)

pub returns-clause-least : goal.returns-clause-least
returns-clause-least c = λ i low high.
    let p = c.min_by_key.ensures.runs.0 in
    let r = range_runs p p.seen in
    let start : p.from.start ≡ c.args.k = ap (λ s. s.start) c.min_by_key.ensures.runs.1 in
    let end : p.from.end ≡ c.args.j = ap (λ s. s.end) c.min_by_key.ensures.runs.1 in
    let len : p.len ≡ p.from.end - p.from.start = r.1 c.min_by_key.ensures.runs.2 in
    let at : p.from.start + (i - c.args.k) ≡ i = omega (arith, start) in
    subst (λ m. stop c.args.self.now m ≤ stop c.args.self.now i) (sym c.unwrap_or.ensures)
    (least p (stop c.args.self.now) (λ x v q k. search (rules, tests)) c.args.k i (i - c.args.k) (omega (arith, start, end, len)) (r.3 (i - c.args.k) (omega (arith, start, end, len)) ∙ ap Some at) c.min_by_key.result c.min_by_key.ensures.runs.3)
