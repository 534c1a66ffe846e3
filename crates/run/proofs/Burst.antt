-- The loop that fires the modules of a step one after another. Assumes nothing.
use Rattle.std.proofs.Common.{◌≡◌, ℕ, ◌+◌, ◌%◌, ◌^◌, ◌<◌, ◌≤◌, Bool, true, false, cond, ◌&&◌, List, length, get_or, set, sym, refl, ap, ◌∙◌, subst, inl, inr, mod-eq_of_lt, arith, get_or-set_other, get_or-set_same}
use mathlib.Core.Path.{fun_ext}
use Rattle.std.proofs.lemmas.Bool.{cases_eq, cases_lt, cases_Bool, le-ltb}
use Rattle.cores.specs.Rules.{Rules}
use Rattle.run.specs.declared.inner.Inner.{Inner}
use Rattle.run.specs.declared.inner.ModuleState.{ModuleState}
use Rattle.counts.specs.Nets.{Net}
use Rattle.counts.specs.Origins.{Enabled, puts}
use Rattle.queues.specs.Strict.{Chip}
use Rattle.queues.specs.Flows.{bump, more, first}
use Rattle.queues.specs.Stands.{Stands}
use Rattle.run.specs.Told.{Counts, Framed, Planned, state_at, unused}
use Rattle.queues.proofs.Replacing.{bump_same, bump_other}
use Rattle.queues.proofs.Turns.{more_none, more_all, more_here, more_on, more_off}

pub framed_refl : (i : Inner) → Framed i i
framed_refl i = record { modules = refl; entries = refl; blocks = refl; marks = λ k. refl; primed = refl; steps = refl }

pub framed_trans : (i j k : Inner) → Framed i j → Framed j k → Framed i k
framed_trans i j k p q = record {
  modules = p.modules ∙ q.modules;
  entries = p.entries ∙ q.entries;
  blocks = p.blocks ∙ q.blocks;
  marks = λ k. p.marks k ∙ q.marks k;
  primed = p.primed ∙ q.primed;
  steps = p.steps ∙ q.steps;
}

-- a firing of module n + 1 leaves the marks as they are
pub marks_still : (i i' : Inner) (n y : ℕ) → n < length i.states → i'.states ≡ set i.states n (record { firings = y; marked = (state_at i n).marked }) → (k : ℕ) → (state_at i' k).marked ≡ (state_at i k).marked
marks_still i i' n y inside wrote k =
    let x : ModuleState = record { firings = y; marked = (state_at i n).marked } in
    ap (λ (xs : List ModuleState). (get_or xs k unused).marked) wrote ∙ elim (cases_eq k n) [
      | inl q ↦ subst (λ (j : ℕ). (get_or (set i.states n x) j unused).marked ≡ (state_at i j).marked) (sym q) (ap (λ (s : ModuleState). s.marked) (get_or-set_same i.states n x unused inside))
      | inr ne ↦ ap (λ (s : ModuleState). s.marked) (get_or-set_other i.states n k x unused ne)
    ]

-- the firings after those of the modules up to the number n
abbrev pub upto : (ℕ → ℕ) → (ℕ → Bool) → ℕ → ℕ → ℕ
upto f go n = more f (first (n + 1) go)

-- more firings of others leave a module able to fire
module _ (net : Net) (f f' : ℕ → ℕ) (v : ℕ) (grown : (u : ℕ) → f u ≤ f' u) (same : f' v ≡ f v) where
  pub enabled_later : Enabled net f v → Enabled net f' v
  enabled_later en = record {
    low = en.low;
    high = en.high;
    feeds = λ e lt q.
        let own : f' (net.sink e) ≡ f (net.sink e) = ap f' q ∙ same ∙ ap f (sym q) in
        omega (arith, en.feeds e lt q, grown (net.source e), own);
    room = λ e lt q.
        let own : f' (net.source e) ≡ f (net.source e) = ap f' q ∙ same ∙ ap f (sym q) in
        omega (arith, en.room e lt q, grown (net.sink e), own);
  }

-- after the turns at the first n modules
pub record Burst {Item State : Type 0} (i₀ : Inner) (r₀ : Rules Item State) (h₀ : ℕ → State) (t₀ : List Item) (firing : List Bool) (n : ℕ) (i : Inner) (r : Rules Item State) (h : ℕ → State) (t : List Item) : Type 0 where
  pub framed : Framed i i₀
  pub flow : (ok : Bool) (before : List Item) (chip : Chip Item State) (f : ℕ → ℕ) (go : ℕ → Bool) → Planned ok before chip f go i₀ r₀ h₀ t₀ firing
      → Stands ok before chip (upto f go n) (puts chip.net (upto f go n)) i.channels r h t × Counts i₀.modules i (upto f go n)

module _ {Item State : Type 0} (i₀ : Inner) (r₀ : Rules Item State) (h₀ : ℕ → State) (t₀ : List Item) (firing : List Bool) where
  -- there is no module 0
  go_zero : (ok : Bool) (before : List Item) (chip : Chip Item State) (f : ℕ → ℕ) (go : ℕ → Bool) → Planned ok before chip f go i₀ r₀ h₀ t₀ firing → go 0 ≡ false
  go_zero ok before chip f go pl = elim (cases_Bool (go 0)) [ inl q ↦ absurd (omega (arith, (pl.only 0 q).0)) | inr q ↦ q ]

  pub burst_none : Burst i₀ r₀ h₀ t₀ firing 0 i₀ r₀ h₀ t₀
  burst_none = record {
    framed = framed_refl i₀;
    flow = λ ok before chip f go pl.
        let still : f ≡ upto f go 0 = fun_ext (λ u. more_none f go 0 u ∙ more_off f go 0 (go_zero ok before chip f go pl) u) in (
          subst (λ (x : ℕ → ℕ). Stands ok before chip x (puts chip.net x) i₀.channels r₀ h₀ t₀) still pl.stands,
          subst (λ (x : ℕ → ℕ). Counts i₀.modules i₀ x) still pl.counts,
        );
  }

  pub burst_off : (n : ℕ) (i : Inner) (r : Rules Item State) (h : ℕ → State) (t : List Item) → Burst i₀ r₀ h₀ t₀ firing n i r h t → n < i₀.modules → get_or firing n false ≡ false
      → Burst i₀ r₀ h₀ t₀ firing (n + 1) i r h t
  burst_off n i r h t b lt off = record {
    framed = b.framed;
    flow = λ ok before chip f go pl.
        let earlier = b.flow ok before chip f go pl in
        let still : upto f go n ≡ upto f go (n + 1) = fun_ext (λ u. more_off f go (n + 1) (sym (pl.going n lt) ∙ off) u) in (
          subst (λ (x : ℕ → ℕ). Stands ok before chip x (puts chip.net x) i.channels r h t) still earlier.0,
          subst (λ (x : ℕ → ℕ). Counts i₀.modules i x) still earlier.1,
        );
  }

  pub burst_on : (n : ℕ) (i i' : Inner) (r r' : Rules Item State) (h h' : ℕ → State) (t t' : List Item) → Burst i₀ r₀ h₀ t₀ firing n i r h t → n < i₀.modules → get_or firing n false ≡ true
      → Framed i' i → n < length i.states → i'.states ≡ set i.states n (record { firings = ((state_at i n).firings + 1) % 2 ^ 32; marked = (state_at i n).marked })
      → ((ok : Bool) (before : List Item) (chip : Chip Item State) (f : ℕ → ℕ) → Stands ok before chip f (puts chip.net f) i.channels r h t → get_or i.blocks n false ≡ chip.net.block (n + 1) → Enabled chip.net f (n + 1)
      → Stands ok before chip (bump f (n + 1)) (puts chip.net (bump f (n + 1))) i'.channels r' h' t')
      → Burst i₀ r₀ h₀ t₀ firing (n + 1) i' r' h' t'
  burst_on n i i' r r' h h' t t' b lt on framed inside wrote told = record {
    framed = framed_trans i' i i₀ framed b.framed;
    flow = λ ok before chip f go pl.
        let earlier = b.flow ok before chip f go pl in
        let f₁ = upto f go n in
        let goes : go (n + 1) ≡ true = sym (pl.going n lt) ∙ on in
        let here : f₁ (n + 1) ≡ f (n + 1) = more_here f go (n + 1) in
        let next : bump f₁ (n + 1) ≡ upto f go (n + 1) = fun_ext (λ u. more_on f go (n + 1) goes u) in
        let blk : get_or i.blocks n false ≡ chip.net.block (n + 1) = ap (λ xs. get_or xs n false) b.framed.blocks ∙ pl.blocks n lt in
        let en : Enabled chip.net f₁ (n + 1) = enabled_later chip.net f f₁ (n + 1) (λ u. omega arith) here (pl.enabled (n + 1) goes) in
        let old : (state_at i n).firings ≡ f (n + 1) = earlier.1 n lt ∙ here in
        let small : (state_at i n).firings + 1 < 2 ^ 32 = omega (arith, old, pl.small (n + 1)) in
        let x : ModuleState = record { firings = ((state_at i n).firings + 1) % 2 ^ 32; marked = (state_at i n).marked } in (
          subst (λ (x : ℕ → ℕ). Stands ok before chip x (puts chip.net x) i'.channels r' h' t') next (told ok before chip f₁ earlier.0 blk en),
          subst (λ (x : ℕ → ℕ). Counts i₀.modules i' x) next
              (λ k l. ap (λ (xs : List ModuleState). (get_or xs k unused).firings) wrote ∙ elim (cases_eq k n) [
                | inl q ↦ subst (λ (j : ℕ). (get_or (set i.states n x) j unused).firings ≡ bump f₁ (n + 1) (j + 1)) (sym q)
                    (ap (λ (s : ModuleState). s.firings) (get_or-set_same i.states n x unused inside) ∙ mod-eq_of_lt small ∙ ap (λ y. y + 1) (earlier.1 n lt) ∙ sym (bump_same f₁ (n + 1)))
                | inr ne ↦ ap (λ (s : ModuleState). s.firings) (get_or-set_other i.states n k x unused ne) ∙ earlier.1 k l ∙ sym (bump_other f₁ (n + 1) (k + 1) (λ q. ne (omega arith)))
              ]),
        );
  }

  pub burst_all : (n : ℕ) (i : Inner) (r : Rules Item State) (h : ℕ → State) (t : List Item) → Burst i₀ r₀ h₀ t₀ firing n i r h t → i₀.modules ≤ n
      → (ok : Bool) (before : List Item) (chip : Chip Item State) (f : ℕ → ℕ) (go : ℕ → Bool) → Planned ok before chip f go i₀ r₀ h₀ t₀ firing
      → Stands ok before chip (more f go) (puts chip.net (more f go)) i.channels r h t × Counts i.modules i (more f go)
  burst_all n i r h t b le ok before chip f go pl =
      let after = b.flow ok before chip f go pl in
      let past : (u : ℕ) → n < u → go u ≡ false = λ u lt. elim (cases_Bool (go u)) [ inl q ↦ absurd (omega (arith, (pl.only u q).1, pl.modules)) | inr q ↦ q ] in
      let all : upto f go n ≡ more f go = fun_ext (λ u. elim (cases_lt n u) [
        | inl lt ↦ ap (λ b. f u + cond (b && go u) 1 0) (le-ltb u (n + 1) (omega arith)) ∙ sym (ap (λ b. f u + cond b 1 0) (past u lt))
        | inr l ↦ more_all f go (n + 1) u (omega arith)
      ]) in (
        subst (λ (x : ℕ → ℕ). Stands ok before chip x (puts chip.net x) i.channels r h t) all after.0,
        λ k lt. subst (λ (x : ℕ → ℕ). Counts i₀.modules i x) all after.1 k (omega (arith, b.framed.modules)),
      )
