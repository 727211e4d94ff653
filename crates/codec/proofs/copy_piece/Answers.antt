-- `codec::copy_piece` meets its contract: the array's front is the piece. Assumes nothing.
use mathlib.Core.Path.{◌∙◌}
use Rattle.codec.proofs.Parts.{put_part, front_put}
use Rattle.codec.proofs.copy_piece.Goals as goal

pub returns : goal.returns
returns c = put_part _ _ _ c.requires.0 (c.copy_from_slice-2.ensures.after ∙ front_put _ _ c.copy_from_slice.ensures.after)
