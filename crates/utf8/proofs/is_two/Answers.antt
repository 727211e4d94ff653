-- `utf8::is_two` meets its contract: the same tests. Assumes nothing.
use Rattle.utf8.proofs.Chars.{two_is}
use Rattle.utf8.proofs.is_two.Goals as goal

pub returns : goal.returns
returns c = two_is _ _ c.is_tail.ensures
