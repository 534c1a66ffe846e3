use Rattle.std.proofs.Common.{◌≢◌, ◌+◌, get_or, pos, sym, ap, ◌∙◌, subst, arith, length-set, get_or-set_other, get_or-set_same}
use Rattle.marked.specs.Rounds.{Lowered, blank, via_at}
use Rattle.marked.proofs.Falls.{low, none_beyond, rounds_more}
use Rattle.marked.proofs.Settling.{settled}
use Rattle.marked.proofs.slow.search.Goals as goal

pub next-next-requires : goal.next-next-requires
next-next-requires c = record { low = low _ _ _ c.loop-k.invariant.0 c.loop-k.k (omega arith) (omega (arith, c.args.weighed.graph.some)); beyond = none_beyond _ _ _ c.loop-k.invariant.0 c.loop-k.invariant.4 c.loop-k.k (omega arith) }

pub returns-in_default : goal.returns-in_default
returns-in_default c = (
  settled c.args.weighed _ c.loop-k.k c.next-next.result c.args.potentials.now c.settle.new.potentials c.loop-k.invariant.0
      c.loop-k.invariant.1 c.next-next.ensures c.in_default.ensures c.settle.ensures.written
      (λ v h. c.settle.ensures.kept v h ∙ ap (λ l. get_or l v (pos 0)) c.loop-k.invariant.2),
  c.loop-k.invariant.3,
)

pub walk_back-requires : goal.walk_back-requires
walk_back-requires c = record {
  high = omega arith;
  long = omega (arith, length-set c.loop-k.levels (c.loop-k.k + 1) c.next-next.result);
  rounds = rounds_more _ _ _ _ (omega arith) c.loop-k.invariant.0 c.next-next.ensures;
  within = c.in-Some.ensures.0;
  lowered = subst (λ l. Lowered l c.in-Some.top) (sym (get_or-set_same c.loop-k.levels (c.loop-k.k + 1) c.next-next.result blank (omega arith))) c.in-Some.ensures.1;
  room = omega arith;
}

pub loop-k-preserved-then-k-ne3 : goal.loop-k-preserved-then-k-ne3
loop-k-preserved-then-k-ne3 c = (
  rounds_more _ _ _ _ (omega arith) c.loop-k.invariant.0 c.next-next.ensures,
  omega arith,
  c.loop-k.invariant.2,
  c.loop-k.invariant.3,
  λ v h.
      let other : 0 ≢ c.loop-k.k + 1 = omega arith in
      ap (λ l. via_at l v) (get_or-set_other c.loop-k.levels (c.loop-k.k + 1) 0 c.next-next.result blank other) ∙ c.loop-k.invariant.4 v h,
)
