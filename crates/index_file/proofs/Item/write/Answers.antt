-- `index_file::Item::write` meets its contract: four writes, one behind the other, are a layout's. Assumes nothing.
use Rattle.codec.proofs.Layouts.{writes, writes_all}
use Rattle.index_file.specs.Index.{item_bytes}
use Rattle.index_file.proofs.Item.write.Goals as goal

pub returns : goal.returns
unfolding item_bytes writes
returns c =
    rw (c.put_u32-3.ensures, c.put_u32-2.ensures, c.put_u64.ensures, c.put_u32.ensures, c.item_place-at.ensures) (writes_all _ _ _ _)
