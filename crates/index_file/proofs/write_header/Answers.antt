-- `index_file::write_header` meets its contract: the writes are the definition's, in its order. Assumes nothing.
use Rattle.index_file.proofs.Puts.{header_first, header_later}
use Rattle.index_file.proofs.write_header.Goals as goal

pub returns-then-fresh : goal.returns-then-fresh
returns-then-fresh c =
    header_first _ _ _ _ _ c.put_u32.ensures c.put_u32-2.ensures c.put_u64.ensures c.put_u64-2.ensures c.if-fresh.true c.put_u64-then-fresh.ensures c.put_u64-then-fresh-2.ensures

pub returns-else-fresh : goal.returns-else-fresh
returns-else-fresh c =
    header_later _ _ _ _ _ c.put_u32.ensures c.put_u32-2.ensures c.put_u64.ensures c.put_u64-2.ensures c.if-fresh.false
