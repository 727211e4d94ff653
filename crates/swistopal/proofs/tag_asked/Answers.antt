-- `swistopal::tag_asked` meets its contract. Assumes nothing.
use Rattle.std.proofs.Common.{rules}
use Rattle.codec.specs.Choice.{pick}
use Rattle.swistopal.specs.Interface.{tag_asked}
use Rattle.swistopal.proofs.tag_asked.Goals as goal

pub returns : goal.returns
unfolding tag_asked pick
returns c = search rules
