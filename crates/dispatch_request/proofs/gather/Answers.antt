-- `dispatch_request::gather` meets its contract: the unique key, then the parts of KEYS. Assumes nothing.
use mathlib.Core.Bool.{not}
use mathlib.Core.Path.{ap}
use native.Mathlib.Omega.{arith}
use Rattle.properties.proofs.Places.{keys_inside, unique_key_inside}
use Rattle.dispatch_request.proofs.Texts.{text_values, topic_known, keys_known, unique_key_known}
use Rattle.dispatch_request.proofs.Gathering.{unique_fits, none_made, all_made}
use Rattle.dispatch_request.proofs.gather.Goals as goal

pub returns-then-not-makes : goal.returns-then-not-makes
returns-then-not-makes c = none_made _ _ _ _ (ap not c.if-not-makes.true)

pub topic_hash-prefix-requires : goal.topic_hash-prefix-requires
topic_hash-prefix-requires c = topic_known c.requires.0

pub value-unique_key-requires : goal.value-unique_key-requires
value-unique_key-requires c = unique_key_inside _ (text_values c.requires.0)

pub gather_unique-first-requires : goal.gather_unique-first-requires
gather_unique-first-requires c =
    let p = c.requires in
    (rw c.value-unique_key.ensures (unique_key_known p.0), p.1)

pub value-keys-requires : goal.value-keys-requires
value-keys-requires c = keys_inside _ (text_values c.requires.0)

pub gather_keys-requires : goal.gather_keys-requires
gather_keys-requires c =
    let g = c.gather_unique-first.ensures in
    (rw c.value-keys.ensures (keys_known c.requires.0), omega (arith, unique_fits _ _ _ c.requires.1 g, g.long))

pub returns : goal.returns
returns c =
    let p = c.requires in
    all_made _ _ _ _ _ (ap not c.if-not-makes.false) c.topic_hash-prefix.ensures (text_values p.0) c.value-unique_key.ensures c.value-keys.ensures p.1 c.gather_unique-first.ensures c.gather_keys.ensures
