-- `index_query::hash_if` meets its contract: topic and key are plain or judged before they are hashed. Assumes nothing.
use mathlib.Core.Bool.{◌&&◌}
use Rattle.index_query.proofs.QueryDoor.{unfit, unreadable, KnownBoth, plain_both, valid_both, hashed_both}
use Rattle.index_query.proofs.hash_if.Goals as goal
use Rattle.index_query.proofs.hash_if.Goals.{else-not-plain-via-then-not-plain+else-not-valid as then-judged, else-not-plain-via-else-not-plain as then-plain}

pub returns-then-not-fits : goal.returns-then-not-fits
returns-then-not-fits c = unfit _ _ c.if-not-fits.true

pub returns-then-not-valid : goal.returns-then-not-valid
returns-then-not-valid c =
    unreadable _ _ c.if-not-fits.false c.valid.ensures c.valid-then-not-plain.ensures c.if-not-valid.true

-- both texts are UTF-8, and of bytes below 128 where they are plain
pub index_hash-requires : goal.index_hash-requires
index_hash-requires c =
    let p = c.plain.ensures in
    let q = c.plain-2.ensures in
    elim c.else-not-plain.branch [
      | then-judged w ↦ valid_both _ _ p q w.valid.ensures w.valid-then-not-plain.ensures w.if-not-valid.false
      | then-plain w ↦ plain_both _ _ p q w.if-not-plain.false
    ]

pub returns : goal.returns
returns c =
    let p = c.plain.ensures in
    let q = c.plain-2.ensures in
    let known : let a = c.args in KnownBoth (c.plain.result && c.plain-2.result) a.topic.now a.key.now = elim c.else-not-plain.branch [ then-judged w ↦ valid_both _ _ p q w.valid.ensures w.valid-then-not-plain.ensures w.if-not-valid.false | then-plain w ↦ plain_both _ _ p q w.if-not-plain.false ] in
    hashed_both _ _ c.if-not-fits.false known c.index_hash.ensures
