-- `java_hash::step8` meets its contract. Assumes nothing.
use Rattle.std.proofs.Common.{arith}
use Rattle.java_hash.proofs.HashLaws.{onward}
use Rattle.java_hash.proofs.step8.Goals as goal

pub returns : goal.returns
returns c = onward _ _ 8 (omega arith) c.told-eight c.octet.ensures c.onward.ensures
