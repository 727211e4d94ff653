-- `java_hash::slot` meets its contract. Assumes nothing.
use Rattle.std.proofs.Common.{rules}
use Rattle.java_hash.specs.Hash.{slot_of}
use Rattle.java_hash.proofs.slot.Goals as goal

pub returns : goal.returns
unfolding slot_of
returns c = search rules
