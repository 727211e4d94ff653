-- `index_file::seconds_after` meets its contract, by its test. Assumes nothing.
use Rattle.index_file.proofs.Puts.{seconds_first, seconds_later}
use Rattle.index_file.proofs.seconds_after.Goals as goal

pub returns-then-u-eq1 : goal.returns-then-u-eq1
returns-then-u-eq1 c = seconds_first _ _ c.if-u-eq1.true

pub returns-else-u-eq1 : goal.returns-else-u-eq1
returns-else-u-eq1 c = seconds_later _ _ c.if-u-eq1.false
