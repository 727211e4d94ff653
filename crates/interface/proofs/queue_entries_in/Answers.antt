-- `interface::queue_entries_in` meets its contract: each number is the one that the definition names. Assumes nothing.
use mathlib.Core.Path.{refl}
use Rattle.interface.specs.Structs.{queue_entries_in}
use Rattle.interface.proofs.queue_entries_in.Goals as goal

pub returns : goal.returns
unfolding queue_entries_in
returns c = refl
