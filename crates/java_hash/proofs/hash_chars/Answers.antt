-- `java_hash::hash_chars` meets its contract: a character stands at every place of a valid text. Assumes nothing.
use Rattle.std.proofs.Common.{◌<◌, drop, rules}
use Rattle.utf8.specs.Utf8.{front}
use Rattle.java_hash.proofs.UnitLaws.{stands}
use Rattle.java_hash.proofs.hash_chars.Goals as goal

pub hash_decoded-requires-clause-asked : goal.hash_decoded-requires-clause-asked
hash_decoded-requires-clause-asked c =
    λ i k e.
    let p : 0 < (front (drop i c.args.s.now)).size = stands c.args.s.now i c.requires k e in search rules
