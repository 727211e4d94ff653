-- `java_hash::quad` meets its contract. Assumes nothing.
use Rattle.std.proofs.Common.{arith}
use Rattle.java_hash.proofs.HashLaws.{halves}
use Rattle.java_hash.proofs.quad.Goals as goal

pub returns : goal.returns
returns c = halves _ 2 2 c.split_at.ensures.front c.split_at.ensures.back (omega arith) c.pair.ensures c.pair-2.ensures c.onward.ensures
