-- `directory::Rows::next` meets its contract: the first of the rows, and the rows behind it. Assumes nothing.
use mathlib.Core.Path.{sym, ◌∙◌}
use borrow.Author.Tests.{eqb-true}
use Rattle.directory.proofs.Chain.{rows_none}
use Rattle.directory.proofs.RowsIterator.next.Goals as goal

pub returns-then-is_empty-clause-steps : goal.returns-then-is_empty-clause-steps
returns-then-is_empty-clause-steps c = let e = rows_none _ (eqb-true _ _ (sym c.is_empty.ensures ∙ c.if-is_empty.true)) in (e, e)
