-- `codec::get_u16` meets its contract. Assumes nothing.
use Rattle.codec.proofs.Conversions.{read_big}
use Rattle.codec.proofs.get_u16.Goals as goal

pub returns : goal.returns
returns c = read_big 1 _ _ c.requires c.bytes_at.ensures c.from_be_bytes.ensures
