-- `index_query::judge` meets its contract: its tests are the definition's, in its order. Assumes nothing.
use mathlib.Core.Path.{◌≡◌}
use mathlib.Core.Bool.{true, false}
use native.Mathlib.Omega.{arith}
use borrow.Author.Tests.{lt-ltb, le-ltb}
use Rattle.codec.specs.Choice.{pick}
use Rattle.index_query.specs.Walk.{item_time, damaged}
use Rattle.index_query.specs.Inner.{verdict_of}
use Rattle.index_query.proofs.Judged.{is_damaged, is_hit}
use Rattle.index_query.proofs.judge.Goals as goal

pub returns-then-max-item : goal.returns-then-max-item
unfolding verdict_of pick
returns-then-max-item c = rw (is_damaged c.args.item _ true c.requires.1 c.max.ensures c.if-max-item.true)

pub returns-then-item-criteria : goal.returns-then-item-criteria
unfolding verdict_of pick
returns-then-item-criteria c =
    let sound : damaged c.args.item ≡ false = is_damaged c.args.item _ false c.requires.1 c.max.ensures c.if-max-item.false in
    let s = c.args in
    rw (sound, is_hit s.item s.criteria true (omega arith) c.if-item-criteria.true)

pub returns-then-time-criteria : goal.returns-then-time-criteria
unfolding verdict_of pick
returns-then-time-criteria c =
    let sound : damaged c.args.item ≡ false = is_damaged c.args.item _ false c.requires.1 c.max.ensures c.if-max-item.false in
    let s = c.args in
    rw (sound, is_hit s.item s.criteria false (omega arith) c.if-item-criteria.false, lt-ltb (item_time s.criteria s.item) s.criteria.begin (omega arith))

pub returns-else-time-criteria : goal.returns-else-time-criteria
unfolding verdict_of pick
returns-else-time-criteria c =
    let sound : damaged c.args.item ≡ false = is_damaged c.args.item _ false c.requires.1 c.max.ensures c.if-max-item.false in
    let s = c.args in
    rw (sound, is_hit s.item s.criteria false (omega arith) c.if-item-criteria.false, le-ltb (item_time s.criteria s.item) s.criteria.begin (omega arith))
