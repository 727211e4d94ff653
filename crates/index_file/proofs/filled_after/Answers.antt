-- `index_file::filled_after` meets its contract, by its test. Assumes nothing.
use Rattle.index_file.proofs.Puts.{filled_more, filled_still}
use Rattle.index_file.proofs.filled_after.Goals as goal

pub returns-then-previous-eq0 : goal.returns-then-previous-eq0
returns-then-previous-eq0 c = filled_more _ _ c.if-previous-eq0.true

pub returns-else-previous-eq0 : goal.returns-else-previous-eq0
returns-else-previous-eq0 c = filled_still _ _ c.if-previous-eq0.false
