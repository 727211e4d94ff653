-- `interface::sizes_in` meets its contract: each number is the one that the definition names. Assumes nothing.
use Rattle.interface.proofs.SizesMade.{sizes_made}
use Rattle.interface.proofs.sizes_in.Goals as goal

pub returns : goal.returns
returns c = sizes_made _ c.geometry_in.ensures c.queue_entries_in.ensures c.index_sizes_in.ensures
