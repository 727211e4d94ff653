-- `java_hash::hash_text` meets its contract. Assumes nothing.
use Rattle.java_hash.proofs.UnitLaws.{known_hash}
use Rattle.java_hash.proofs.hash_text.Goals as goal

pub returns-then-plain : goal.returns-then-plain
returns-then-plain c = known_hash _ _ c.requires c.if-plain.true c.hash_bytes.ensures
