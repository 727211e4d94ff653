-- `java_hash::topic_hash` meets its contract. Assumes nothing.
use Rattle.java_hash.proofs.HashLaws.{topic_step}
use Rattle.java_hash.proofs.topic_hash.Goals as goal

pub hash_text-requires : goal.hash_text-requires
hash_text-requires c = c.requires

pub returns : goal.returns
returns c = topic_step _ _ _ c.hash_text.ensures c.from.ensures c.step.ensures
