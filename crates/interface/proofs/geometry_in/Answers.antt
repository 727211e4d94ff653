-- `interface::geometry_in` meets its contract: each number is the one that the definition names. Assumes nothing.
use mathlib.Core.Path.{refl}
use Rattle.interface.specs.Structs.{geometry_in}
use Rattle.interface.proofs.geometry_in.Goals as goal

pub returns : goal.returns
unfolding geometry_in
returns c = refl
