-- `interface::index_sizes_in` meets its contract: each number is the one that the definition names. Assumes nothing.
use mathlib.Core.Path.{refl}
use Rattle.interface.specs.Structs.{index_sizes_in}
use Rattle.interface.proofs.index_sizes_in.Goals as goal

pub returns : goal.returns
unfolding index_sizes_in
returns c = refl
