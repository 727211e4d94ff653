-- `java_hash::pair` meets its contract. Assumes nothing.
use Rattle.java_hash.proofs.HashLaws.{both_units}
use Rattle.java_hash.proofs.pair.Goals as goal

pub returns : goal.returns
returns c = both_units _ c.requires (c.type_inv.s 0).fits c.from.ensures c.from-2.ensures c.onward.ensures
