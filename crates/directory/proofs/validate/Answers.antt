-- `directory::validate` meets its contract. The loop's invariant, `Noting`: the rows so far are distinct, and each has met its place. Assumes nothing.
use mathlib.Core.Path.{refl, sym, ◌∙◌}
use native.Mathlib.Omega.{arith}
use Rattle.directory.proofs.Reading.{begins}
use Rattle.directory.proofs.Judging.{noting_start, rows_before, finished, refused_full, refused_bad, turn, within_on, refused_again, new_sought, new_bucket, noting_on}
use Rattle.directory.proofs.validate.Goals as goal
use Rattle.directory.proofs.validate.Goals.{else-met-k-via-then-met-k+else-is_some, else-met-k-via-else-met-k}

pub loop-at-init : goal.loop-at-init
loop-at-init c = noting_start _

pub returns-then-rows-eq-ROWS : goal.returns-then-rows-eq-ROWS
returns-then-rows-eq-ROWS c = refused_full c.loop-at.invariant c.loop-at-test.true c.if-rows-eq-ROWS.true

pub returns-then-not-row_ok : goal.returns-then-not-row_ok
returns-then-not-row_ok c = refused_bad c.loop-at.invariant c.loop-at-test.true c.if-rows-eq-ROWS.false c.row_ok.ensures c.if-not-row_ok.true

pub row_from-requires : goal.row_from-requires
row_from-requires c = rows_before c.loop-at.invariant

pub new-row-requires : goal.new-row-requires
new-row-requires c = begins _ (sym c.row_ok.ensures ∙ c.if-not-row_ok.false)

pub returns-then-is_some : goal.returns-then-is_some
returns-then-is_some c =
    let t = turn c.loop-at.invariant c.loop-at-test.true c.if-rows-eq-ROWS.false (sym c.row_ok.ensures ∙ c.if-not-row_ok.false) refl c.new-row.ensures.queue in
    refused_again t c.row_from.ensures c.is_some.ensures c.if-is_some.true

pub overflow_add-at : goal.overflow_add-at
overflow_add-at c =
    let n = within_on (turn c.loop-at.invariant c.loop-at-test.true c.if-rows-eq-ROWS.false (sym c.row_ok.ensures ∙ c.if-not-row_ok.false) (c.size-at.ensures ∙ c.new-row.ensures.size) c.new-row.ensures.queue) in
    omega arith

pub loop-at-preserved : goal.loop-at-preserved
loop-at-preserved c =
    let t = turn c.loop-at.invariant c.loop-at-test.true c.if-rows-eq-ROWS.false (sym c.row_ok.ensures ∙ c.if-not-row_ok.false) (c.size-at.ensures ∙ c.new-row.ensures.size) c.new-row.ensures.queue in
    noting_on t c.bucket-k.ensures.0 c.bucket-k.ensures.1
    (elim c.else-met-k.branch [
      | else-met-k-via-then-met-k+else-is_some w ↦ new_sought t w.row_from.ensures w.is_some.ensures w.if-is_some.false
      | else-met-k-via-else-met-k w ↦ new_bucket t c.bucket-k.ensures.0 w.if-met-k.false
    ])

pub returns : goal.returns
returns c = finished c.loop-at.invariant c.loop-at-test.false c.then_some.ensures
