-- `java_hash::key_hash` meets its contract. Assumes nothing.
use Rattle.java_hash.proofs.HashLaws.{key_step}
use Rattle.java_hash.proofs.key_hash.Goals as goal

pub hash_text-requires : goal.hash_text-requires
hash_text-requires c = c.requires

pub returns : goal.returns
returns c = key_step _ _ _ _ c.hash_text.ensures c.magnitude.ensures
