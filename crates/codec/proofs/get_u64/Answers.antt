-- `codec::get_u64` meets its contract. Assumes nothing.
use Rattle.codec.proofs.Conversions.{read_big}
use Rattle.codec.proofs.get_u64.Goals as goal

pub returns : goal.returns
returns c = read_big 7 _ _ c.requires c.bytes_at.ensures c.from_be_bytes.ensures
