-- `dispatch_request::has_item` meets its contract: the unique key or a part of KEYS. Assumes nothing.
use mathlib.Core.Bool.{not}
use mathlib.Core.Path.{refl, sym, ap, ◌∙◌}
use borrow.Author.Tests.{eqb-true, eqb-false}
use Rattle.properties.proofs.Places.{scanned_values, keys_inside, unique_key_inside}
use Rattle.dispatch_request.proofs.Among.{same_bytes, none_had, other_topic, no_key, unique_had, part_had}
use Rattle.dispatch_request.proofs.has_item.Goals as goal
use Rattle.dispatch_request.proofs.has_item.Goals.{then-not-makes_items-via-then-not-makes_items, then-not-makes_items-via-else-not-makes_items+then-ne, then-not-makes_items-via-else-not-makes_items+else-ne+then-is_empty}

pub returns-then-not-makes_items : goal.returns-then-not-makes_items
returns-then-not-makes_items c =
    elim c.then-not-makes_items.branch [
      | then-not-makes_items-via-then-not-makes_items w ↦ none_had _ _ c.makes_items.ensures _ _ _ (ap not w.if-not-makes_items.true)
      | then-not-makes_items-via-else-not-makes_items+then-ne w ↦ other_topic _ _ _ _ _ (same_bytes _ _) (sym w.ne.ensures ∙ w.if-ne.true)
      | then-not-makes_items-via-else-not-makes_items+else-ne+then-is_empty w ↦ no_key _ _ _ _ _ (eqb-true _ _ (sym w.is_empty.ensures ∙ w.if-is_empty.true))
    ]

pub value-requires : goal.value-requires
value-requires c = unique_key_inside _ (scanned_values _ c.scan.ensures)

pub value-requires-else-eq : goal.value-requires-else-eq
value-requires-else-eq c = keys_inside _ (scanned_values _ c.scan.ensures)

pub returns-then-eq : goal.returns-then-eq
returns-then-eq c =
    c.if-eq.true
    ∙ unique_had _ _ c.makes_items.ensures (ap not c.if-not-makes_items.false) _ (scanned_values _ c.scan.ensures) c.value.ensures refl
    _ _ _ (same_bytes _ _) (sym c.ne.ensures ∙ c.if-ne.false) (eqb-false _ _ (sym c.is_empty.ensures ∙ c.if-is_empty.false)) (c.eq.ensures ∙ same_bytes _ _) c.if-eq.true

pub returns-else-eq : goal.returns-else-eq
returns-else-eq c =
    part_had _ _ c.makes_items.ensures (ap not c.if-not-makes_items.false) _ (scanned_values _ c.scan.ensures) c.value.ensures c.value-else-eq.ensures
    _ _ _ (same_bytes _ _) (sym c.ne.ensures ∙ c.if-ne.false) (eqb-false _ _ (sym c.is_empty.ensures ∙ c.if-is_empty.false)) (c.eq.ensures ∙ same_bytes _ _) c.if-eq.false c.is_part.ensures
