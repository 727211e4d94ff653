-- `codec::put_u16` meets its contract. Assumes nothing.
use mathlib.Core.Path.{◌∙◌}
use Rattle.codec.proofs.Conversions.{put_bytes}
use Rattle.codec.proofs.put_u16.Goals as goal

pub returns : goal.returns
returns c = put_bytes 2 _ _ _ c.requires (c.copy_from_slice.ensures.after ∙ c.to_be_bytes.ensures)
