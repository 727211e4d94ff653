-- `utf8::is_tail` meets its contract: the same tests. Assumes nothing.
use mathlib.Core.Path.{refl}
use Rattle.utf8.specs.Utf8.{range, tail}
use Rattle.utf8.proofs.is_tail.Goals as goal

pub returns : goal.returns
unfolding tail range
returns c = refl
