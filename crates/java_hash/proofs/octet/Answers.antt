-- `java_hash::octet` meets its contract. Assumes nothing.
use Rattle.std.proofs.Common.{arith}
use Rattle.java_hash.proofs.HashLaws.{halves}
use Rattle.java_hash.proofs.octet.Goals as goal

pub returns : goal.returns
returns c = halves _ 4 4 c.split_at.ensures.front c.split_at.ensures.back (omega arith) c.quad.ensures c.quad-2.ensures c.onward.ensures
