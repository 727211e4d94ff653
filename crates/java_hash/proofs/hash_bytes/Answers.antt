-- `java_hash::hash_bytes` meets its contract: the eights, then the rest. Assumes nothing.
use Rattle.std.proofs.Common.{[], ◌∷◌, rules}
use Rattle.std.proofs.lemmas.Iterator.{YieldsList-from_slice}
use Rattle.std.proofs.lemmas.Iterator.Consumers.{fold_from_yields_List}
use Rattle.java_hash.specs.Hash.{hash_from}
use Rattle.java_hash.proofs.HashLaws.{eights_rest}
use Rattle.java_hash.proofs.hash_bytes.Goals as goal

pub returns : goal.returns
returns c =
    eights_rest _ _ c.as_chunks.ensures.front c.as_chunks.ensures.back
    (fold_from_yields_List _ hash_from c.args.start _ c.fold-h.ensures.ran (YieldsList-from_slice c.as_chunks.result.0.now cc) (λ a x b q k. search rules))
    (fold_from_yields_List _ (λ h u. hash_from h (u ∷ [])) _ _ c.fold.ensures.ran (YieldsList-from_slice c.as_chunks.result.1.now cc) (λ a x b q k. search rules))
