-- `codec::copy_into` meets its contract. Assumes nothing.
use Rattle.codec.proofs.Parts.{put_part}
use Rattle.codec.proofs.copy_into.Goals as goal

pub returns : goal.returns
returns c = put_part _ _ _ c.requires c.copy_from_slice.ensures.after
