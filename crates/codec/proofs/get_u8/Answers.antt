-- `codec::get_u8` meets its contract. Assumes nothing.
use Rattle.codec.specs.Bytes.{big}
use Rattle.codec.proofs.Fields.{field_one}
use Rattle.codec.proofs.get_u8.Goals as goal

pub returns : goal.returns
returns c = field_one big _ _ c.requires
