-- `index_file::header_sound` meets its contract: its tests, one after the other, are the definition's. Assumes nothing.
use native.Mathlib.Omega.{arith}
use Rattle.index_file.proofs.Judged.{used_above, filled_above, time_above, first_above, last_above, has_items, has_none}
use Rattle.index_file.proofs.header_sound.Goals as goal

pub returns-then-item_count-from : goal.returns-then-item_count-from
returns-then-item_count-from c = used_above _ _ c.used_count-used.ensures (omega arith)

pub returns-then-used-get_u32 : goal.returns-then-used-get_u32
returns-then-used-get_u32 c = filled_above _ _ c.used_count-used.ensures c.get_u32.ensures c.if-used-get_u32.true

pub returns-then-max-gt-MAX_TIME : goal.returns-then-max-gt-MAX_TIME
returns-then-max-gt-MAX_TIME c =
    time_above _ _ c.get_u64-first_time.ensures c.get_u64-last_time.ensures c.max.ensures c.if-max-gt-MAX_TIME.true

pub returns-then-first_position-gt-MAX_POSITION : goal.returns-then-first_position-gt-MAX_POSITION
returns-then-first_position-gt-MAX_POSITION c = first_above _ _ c.get_u64-first_position.ensures c.if-first_position-gt-MAX_POSITION.true

pub returns-then-last_position-gt-MAX_POSITION : goal.returns-then-last_position-gt-MAX_POSITION
returns-then-last_position-gt-MAX_POSITION c = last_above _ _ c.get_u64-last_position.ensures c.if-last_position-gt-MAX_POSITION.true

pub returns-then-used-gt1 : goal.returns-then-used-gt1
returns-then-used-gt1 c =
    has_items _ _ c.used_count-used.ensures c.get_u32.ensures c.get_u64-first_time.ensures c.get_u64-last_time.ensures c.max.ensures c.get_u64-first_position.ensures
    c.get_u64-last_position.ensures (omega arith) c.if-used-get_u32.false c.if-max-gt-MAX_TIME.false c.if-first_position-gt-MAX_POSITION.false c.if-last_position-gt-MAX_POSITION.false c.if-used-gt1.true

pub returns : goal.returns
returns c =
    has_none _ _ c.used_count-used.ensures c.get_u32.ensures c.get_u64-first_time.ensures c.get_u64-last_time.ensures c.max.ensures c.get_u64-first_position.ensures
    c.get_u64-last_position.ensures (omega arith) c.if-used-get_u32.false c.if-max-gt-MAX_TIME.false c.if-first_position-gt-MAX_POSITION.false c.if-last_position-gt-MAX_POSITION.false c.if-used-gt1.false
