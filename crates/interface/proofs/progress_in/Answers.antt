-- `interface::progress_in` meets its contract: each number is the one that the definition names. Assumes nothing.
use mathlib.Core.Path.{refl}
use Rattle.interface.specs.Structs.{progress_in}
use Rattle.interface.proofs.progress_in.Goals as goal

pub returns : goal.returns
unfolding progress_in
returns c = refl
