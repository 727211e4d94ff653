-- `dispatch_request::request_of` meets its contract: each number is read at its place, topic and properties are lent. Assumes nothing.
use native.Mathlib.Omega.{arith}
use Rattle.record.specs.Reading.{Holds}
use Rattle.record.specs.Judging.{TextKnown}
use Rattle.dispatch_request.proofs.Duties.{tags_found}
use Rattle.dispatch_request.proofs.Texts.{text_values, tags_known, text_lent}
use Rattle.dispatch_request.proofs.Standing.{lengths_held, topic_lent, properties_lent, own_long, own_read}
use Rattle.dispatch_request.proofs.request_of.Goals as goal

pub topic_in-topic-requires : goal.topic_in-topic-requires
topic_in-topic-requires c = lengths_held _ c.lengths_in-lengths.ensures c.requires.0

pub properties_in-properties-requires : goal.properties_in-properties-requires
properties_in-properties-requires c = lengths_held _ c.lengths_in-lengths.ensures c.requires.0

pub gather-items-requires : goal.gather-items-requires
gather-items-requires c =
    let k = c.lengths_in-lengths.ensures in
    (text_lent (topic_lent _ k c.topic_in-topic.ensures) (properties_lent _ k c.properties_in-properties.ensures) c.requires.2, c.requires.4)

pub returns-then-list-items : goal.returns-then-list-items
returns-then-list-items c =
    let k = c.lengths_in-lengths.ensures in
    own_long _ _ _ _ (topic_lent _ k c.topic_in-topic.ensures) (properties_lent _ k c.properties_in-properties.ensures) c.get_u32-flag.ensures c.makes_items.ensures c.gather-items.ensures c.if-list-items.true

pub tag_of-tag_code-requires : goal.tag_of-tag_code-requires
tag_of-tag_code-requires c =
    let k = c.lengths_in-lengths.ensures in
    let t : TextKnown c.topic_in-topic.result.now c.properties_in-properties.result.now c.args.text
    = text_lent (topic_lent _ k c.topic_in-topic.ensures) (properties_lent _ k c.properties_in-properties.ensures) c.requires.2 in
    (tags_found _ (text_values t), tags_known t)

pub row_number-row-requires : goal.row_number-row-requires
row_number-row-requires c = c.requires.3

pub get_u64-requires : goal.get_u64-requires
get_u64-requires c =
    let held : Holds c.args.own.now c.lengths_in-lengths.result = lengths_held _ c.lengths_in-lengths.ensures c.requires.0 in
    omega (arith, held)

pub overflow_add-lengths : goal.overflow_add-lengths
overflow_add-lengths c =
    let held : Holds c.args.own.now c.lengths_in-lengths.result = lengths_held _ c.lengths_in-lengths.ensures c.requires.0 in
    omega (arith, held)

pub get_u64-requires-2 : goal.get_u64-requires-2
get_u64-requires-2 c =
    let held : Holds c.args.own.now c.lengths_in-lengths.result = lengths_held _ c.lengths_in-lengths.ensures c.requires.0 in
    omega (arith, held)

pub returns : goal.returns
returns c =
    let k = c.lengths_in-lengths.ensures in
    let t : TextKnown c.topic_in-topic.result.now c.properties_in-properties.result.now c.args.text
    = text_lent (topic_lent _ k c.topic_in-topic.ensures) (properties_lent _ k c.properties_in-properties.ensures) c.requires.2 in
    own_read _ _ _ _ (topic_lent _ k c.topic_in-topic.ensures) (properties_lent _ k c.properties_in-properties.ensures) c.get_u32-flag.ensures c.makes_items.ensures c.gather-items.ensures c.if-list-items.false c.requires.1 k c.get_u32.ensures c.get_u64.ensures c.get_u64-2.ensures c.makes_entry.ensures c.row_number-row.ensures (tags_found _ (text_values t)) c.tag_of-tag_code.ensures
