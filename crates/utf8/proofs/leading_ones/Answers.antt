-- `utf8::leading_ones` meets its contract: computed for the 256 bytes. Assumes nothing.
use Rattle.utf8.proofs.Chars.{leading}
use Rattle.utf8.proofs.leading_ones.Goals as goal

pub returns : goal.returns
returns c = leading c.args.b c.ranges.b.fits
