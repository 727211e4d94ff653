-- `utf8::is_three` meets its contract: the row that the bits tell. Assumes nothing.
use Rattle.utf8.proofs.Chars.{three_is}
use Rattle.utf8.proofs.is_three.Goals as goal

pub returns : goal.returns
returns c = three_is _ _ _ c.is_tail.ensures c.is_tail-2.ensures
