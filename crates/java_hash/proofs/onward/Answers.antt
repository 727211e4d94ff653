-- `java_hash::onward` meets its contract: before each turn h is multiplied as often as there were turns. Assumes nothing.
use Rattle.std.proofs.Common.{arith}
use Rattle.java_hash.proofs.HashLaws.{times_none, times_more, times_all}
use Rattle.java_hash.proofs.onward.Goals as goal

pub loop-init : goal.loop-init
loop-init g c = times_none _ (omega arith)

pub loop-preserved : goal.loop-preserved
loop-preserved g c = times_more _ _ c.loop.invariant c.mul31-times.ensures

pub returns : goal.returns
returns g c = times_all _ _ _ _ (omega arith) c.loop.invariant
