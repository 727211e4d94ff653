-- `index_file::Item::read` meets its contract: field by field. Assumes nothing.
use Rattle.index_file.specs.Index.{item_of}
use Rattle.index_file.proofs.Item.read.Goals as goal

pub returns : goal.returns
unfolding item_of
returns c = cc
