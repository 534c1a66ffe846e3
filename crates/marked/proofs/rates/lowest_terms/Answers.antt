use Rattle.std.proofs.Common.{◌≡◌, subst, arith}
use Rattle.marked.proofs.Fractions.{Alike, alike_more, divisor_positive, reduced}
use Rattle.marked.proofs.rates.lowest_terms.Goals as goal

pub loop-rest-preserved : goal.loop-rest-preserved
loop-rest-preserved c = alike_more _ _ _ _ c.loop-rest.invariant

at_end : (c : goal.After-loop-rest) → Alike c.args.x c.args.y c.loop-rest.divisor 0
at_end c = let e : c.loop-rest.rest ≡ 0 = omega arith in subst (Alike c.args.x c.args.y c.loop-rest.divisor) e c.loop-rest.invariant

pub nonzero_div-result : goal.nonzero_div-result
nonzero_div-result c = divisor_positive _ _ _ (at_end c) c.requires

pub nonzero_div-result-2 : goal.nonzero_div-result-2
nonzero_div-result-2 c = divisor_positive _ _ _ (at_end c) c.requires

pub returns : goal.returns
returns c = reduced _ _ _ (at_end c) c.requires
