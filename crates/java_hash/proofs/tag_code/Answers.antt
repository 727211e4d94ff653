-- `java_hash::tag_code` meets its contract. Assumes nothing.
use Rattle.java_hash.proofs.HashLaws.{tag_step}
use Rattle.java_hash.proofs.tag_code.Goals as goal

pub hash_text-requires : goal.hash_text-requires
hash_text-requires c = c.requires

pub returns : goal.returns
returns c = tag_step _ _ _ c.hash_text.ensures c.carry.ensures
