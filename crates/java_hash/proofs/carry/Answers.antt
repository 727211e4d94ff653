-- `java_hash::carry` meets its contract. Assumes nothing.
use Rattle.std.proofs.Common.{arith}
use Rattle.java_hash.proofs.HashLaws.{carry_is}
use Rattle.java_hash.proofs.carry.Goals as goal

pub returns : goal.returns
returns c = carry_is _ (omega arith) c.cast_signed.ensures c.from.ensures c.cast_unsigned.ensures
