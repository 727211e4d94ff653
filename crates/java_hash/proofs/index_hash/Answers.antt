-- `java_hash::index_hash` meets its contract. Assumes nothing.
use Rattle.std.proofs.Common.{◌∙◌}
use Rattle.java_hash.proofs.HashLaws.{key_hash_is}
use Rattle.java_hash.proofs.index_hash.Goals as goal

pub topic_hash-requires : goal.topic_hash-requires
topic_hash-requires c = c.requires.0

pub key_hash-requires : goal.key_hash-requires
key_hash-requires c = c.requires.1

pub returns : goal.returns
returns c = rw c.topic_hash.ensures at c.key_hash.ensures ∙ key_hash_is _ _
