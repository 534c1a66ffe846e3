-- A new run, at the first counts. Assumes nothing.
use Rattle.std.proofs.Common.{◌≡◌, ℕ, ◌<◌, true, false, List, length, get_or, replicate, vec_items, refl, ap, ◌∙◌, subst, arith}
use Rattle.cores.specs.Rules.{Rules}
use Rattle.netlist.specs.declared.channel.Channel.{Channel}
use Rattle.netlist.specs.declared.netlist.Module.{Module}
use Rattle.netlist.specs.declared.netlist.Netlist.{Netlist}
use Rattle.netlist.specs.Holds.{channels_of, kind_of, modules}
use Rattle.checking.specs.Verdicts.{Passed}
use Rattle.counts.specs.Nets.{is_block}
use Rattle.calls.specs.Calls.{at_first}
use Rattle.calls.proofs.Tracing.{lawful}
use Rattle.queues.specs.Stands.{items}
use Rattle.queues.specs.Strict.{Chip, strict}
use Rattle.run.specs.declared.inner.Inner.{Inner}
use Rattle.run.specs.declared.inner.ModuleState.{ModuleState}
use Rattle.run.specs.Making.{LaidOut, chip_of}
use Rattle.run.specs.Told.{Lists, Told, unused}
use Rattle.run.proofs.Arrays.{filled}
use Rattle.run.proofs.Blocks.{module_count}
use Rattle.run.proofs.Laying.{entries_are, flows_laid, matches_laid}

strict_start : {Item State : Type 0} (chip : Chip Item State) (v : ℕ) → chip.start v ≡ (strict chip 0).state v
unfolding strict
strict_start chip v = refl

told_laid : {Item State : Type 0} (n : Netlist) (qs : List ℕ) (cs : List Channel) (rules : Rules Item State) (start : ℕ → State) (i : Inner) (table : List Item)
    → Passed n → cs ≡ channels_of n → length qs ≡ length cs → i.channels.count ≡ length cs → LaidOut cs qs i.channels.queues (length cs) i.channels.entries
    → i.modules ≡ modules n → Lists (modules n) i.blocks false (λ v. is_block (kind_of n v))
    → i.states ≡ replicate 64 unused → i.primed ≡ false → i.steps ≡ 0
    → Told true table (chip_of n qs rules start) at_first i rules start table
told_laid n qs cs rules start i table passed lends same count l em blocks ef ep es =
    let chip = chip_of n qs rules start in
    record {
      stands = record {
        lawful = lawful n qs passed;
        matches = matches_laid n qs cs i.channels lends same count l;
        same_rules = refl;
        flows = flows_laid n qs cs i.channels lends same count l table (items chip);
        states = λ y v low blk. strict_start chip v;
        rest = λ v low rel. refl;
      };
      modules = em;
      entries = entries_are n qs cs i.channels lends same count l;
      blocks = λ k lt. blocks k (subst (λ (m : ℕ). k < m) em lt);
      firings = λ k lt. ap (λ (xs : List ModuleState). (get_or xs k unused).firings) ef ∙ ap (λ (s : ModuleState). s.firings) (filled unused k);
      marks = λ k lt. ap (λ (xs : List ModuleState). (get_or xs k unused).marked) ef ∙ ap (λ (s : ModuleState). s.marked) (filled unused k);
      primed = ep;
      steps = es;
      few = λ v. omega arith;
      still = λ q v. refl;
    }

-- the same of the lists that the netlist and the rating lend
pub told_new : {Item State : Type 0} (n m : Netlist) (qs qs' : List ℕ) (cs : List Channel) (ms : List Module) (rules : Rules Item State) (start : ℕ → State) (i : Inner) (table : List Item)
    → Passed n → m ≡ n → qs ≡ qs' → cs ≡ channels_of n → ms ≡ vec_items m.modules → length qs ≡ length cs → i.channels.count ≡ length cs → LaidOut cs qs i.channels.queues (length cs) i.channels.entries
    → i.modules ≡ length ms → Lists (modules m) i.blocks false (λ v. is_block (kind_of m v))
    → i.states ≡ replicate 64 unused → i.primed ≡ false → i.steps ≡ 0
    → Told true table (chip_of n qs' rules start) at_first i rules start table
told_new n m qs qs' cs ms rules start i table passed same_netlist same_sizing lends holds same count l em blocks ef ep es =
    subst (λ (x : List ℕ). Told true table (chip_of n x rules start) at_first i rules start table) same_sizing
    (told_laid n qs cs rules start i table passed lends same count l (em ∙ module_count m ms holds ∙ ap (λ (x : Netlist). modules x) same_netlist)
    (subst (λ (x : Netlist). Lists (modules x) i.blocks false (λ v. is_block (kind_of x v))) same_netlist blocks) ef ep es)
