-- `codec::get_u32` meets its contract. Assumes nothing.
use Rattle.codec.proofs.Conversions.{read_big}
use Rattle.codec.proofs.get_u32.Goals as goal

pub returns : goal.returns
returns c = read_big 3 _ _ c.requires c.bytes_at.ensures c.from_be_bytes.ensures
