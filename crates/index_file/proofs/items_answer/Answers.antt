-- `index_file::items_answer` meets its contract: rule 7's tests, in its order. Assumes nothing.
use mathlib.Core.Path.{refl, sym, ap}
use Rattle.units.specs.Checked.{checked}
use Rattle.index_file.proofs.Items.{answer_none, answer_ahead, answer_full, answer_bad, answer_fine}
use Rattle.index_file.proofs.items_answer.Goals as goal

pub returns-then-is_empty : goal.returns-then-is_empty
unfolding checked
returns-then-is_empty c = ap checked (answer_none _ _ _ _ _ c.is_empty.ensures c.if-is_empty.true)

pub returns-then-is_ahead : goal.returns-then-is_ahead
unfolding checked
returns-then-is_ahead c = ap checked (answer_ahead _ _ _ _ _ c.is_empty.ensures c.if-is_empty.false c.is_ahead.ensures c.if-is_ahead.true)

pub returns-then-is_full : goal.returns-then-is_full
unfolding checked
returns-then-is_full c = ap checked (answer_full _ _ _ _ _ c.is_empty.ensures c.if-is_empty.false c.is_ahead.ensures c.if-is_ahead.false c.is_full.ensures c.if-is_full.true)

pub returns-then-judged : goal.returns-then-judged
unfolding checked
returns-then-judged c = ap checked (answer_fine _ _ _ _ _ c.is_empty.ensures c.if-is_empty.false c.is_ahead.ensures c.if-is_ahead.false c.is_full.ensures c.if-is_full.false
    (sym (c.requires.2 c.if-judged.true)) refl)

pub returns-then-slots_bad : goal.returns-then-slots_bad
unfolding checked
returns-then-slots_bad c = ap checked (answer_bad _ _ _ _ _ c.is_empty.ensures c.if-is_empty.false c.is_ahead.ensures c.if-is_ahead.false c.is_full.ensures c.if-is_full.false
    c.slots_bad.ensures c.if-slots_bad.true)

pub returns : goal.returns
unfolding checked
returns c = ap checked (answer_fine _ _ _ _ _ c.is_empty.ensures c.if-is_empty.false c.is_ahead.ensures c.if-is_ahead.false c.is_full.ensures c.if-is_full.false
    c.slots_bad.ensures c.if-slots_bad.false)
