-- `java_hash::any_tag_code` meets its contract. Assumes nothing.
use Rattle.std.proofs.Common.{◌≡◌, sym, ◌∙◌}
use Rattle.utf8.specs.Utf8.{units}
use Rattle.java_hash.specs.Hash.{hash_from}
use Rattle.java_hash.proofs.HashLaws.{tag_step}
use Rattle.java_hash.proofs.UnitLaws.{plain_hash}
use Rattle.java_hash.proofs.any_tag_code.Goals as goal
use Rattle.java_hash.proofs.any_tag_code.Goals.{then-plain, else-plain}

pub returns : goal.returns
returns c =
    let hash : c.if-plain.carry ≡ hash_from 0 (units c.args.tags.now)
    = elim c.if-plain.branch [ then-plain w ↦ w.carry-is ∙ plain_hash _ _ (sym c.plain.ensures ∙ w.if-plain.true) w.hash_bytes.ensures | else-plain w ↦ w.carry-is ∙ w.hash_any.ensures ] in
    tag_step _ _ _ hash c.carry.ensures
