use Rattle.std.proofs.Common.{◌-◌, arith}
use lib.ListN.{get_or-replicate}
use Rattle.cores.proofs.sum.SumSet.new.Goals as goal

pub returns : goal.returns
returns c = λ v low high. get_or-replicate 64 (v - 1) 0 0 (omega arith)
