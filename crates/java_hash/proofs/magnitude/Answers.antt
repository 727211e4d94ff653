-- `java_hash::magnitude` meets its contract. Assumes nothing.
use Rattle.std.proofs.Common.{arith}
use Rattle.java_hash.proofs.HashLaws.{absolute_is}
use Rattle.java_hash.proofs.magnitude.Goals as goal

pub returns : goal.returns
returns c = absolute_is _ (omega arith) _ c.cast_signed.ensures c.checked_abs.ensures c.unwrap_or.ensures c.cast_unsigned.ensures
