-- `codec::get_u64_le` meets its contract. Assumes nothing.
use Rattle.codec.proofs.Conversions.{read_little}
use Rattle.codec.proofs.get_u64_le.Goals as goal

pub returns : goal.returns
returns c = read_little 7 _ _ c.requires c.bytes_at.ensures c.from_le_bytes.ensures
