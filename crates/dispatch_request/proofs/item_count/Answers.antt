-- `dispatch_request::item_count` meets its contract: the parts of KEYS, and the unique key if there is one. Assumes nothing.
use mathlib.Core.Bool.{not}
use mathlib.Core.Path.{sym, ap, ◌∙◌}
use borrow.Author.Tests.{eqb-true, eqb-false}
use native.Mathlib.Omega.{arith}
use Rattle.properties.proofs.Places.{keys_few, keys_inside, unique_key_inside}
use Rattle.dispatch_request.proofs.Among.{none_counted, others_counted, all_counted}
use Rattle.dispatch_request.proofs.item_count.Goals as goal

pub returns-then-not-makes_items : goal.returns-then-not-makes_items
returns-then-not-makes_items c = none_counted _ _ c.makes_items.ensures (ap not c.if-not-makes_items.true)

pub value-requires : goal.value-requires
value-requires c = keys_inside _ c.requires

pub value-requires-2 : goal.value-requires-2
value-requires-2 c = unique_key_inside _ c.requires

pub returns-then-is_empty : goal.returns-then-is_empty
returns-then-is_empty c =
    others_counted _ _ c.makes_items.ensures (ap not c.if-not-makes_items.false) _ c.requires c.value-2.ensures c.value.ensures c.key_count-others.ensures (eqb-true _ _ (sym c.is_empty.ensures ∙ c.if-is_empty.true))

pub overflow_add-result : goal.overflow_add-result
overflow_add-result c = omega (arith, c.key_count-others.ensures, keys_few c.value.result.now)

pub returns-else-is_empty : goal.returns-else-is_empty
returns-else-is_empty c =
    all_counted _ _ c.makes_items.ensures (ap not c.if-not-makes_items.false) _ c.requires c.value-2.ensures c.value.ensures c.key_count-others.ensures (eqb-false _ _ (sym c.is_empty.ensures ∙ c.if-is_empty.false))
