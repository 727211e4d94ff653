-- `directory::lookup` meets its contract: the queues of a directory in order are those of all its rows. Assumes nothing.
use Rattle.directory.proofs.Chain.{in_rows}
use Rattle.directory.proofs.Judged.{sound, row_sought}
use Rattle.directory.proofs.lookup.Goals as goal

pub row_from-requires : goal.row_from-requires
row_from-requires c = in_rows _ _ (sound _ c.requires).made

pub returns : goal.returns
returns c = row_sought _ _ _ c.requires c.row_from.ensures
