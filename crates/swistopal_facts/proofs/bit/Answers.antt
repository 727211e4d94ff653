-- `swistopal_facts::bit` meets its contract: by its two ways. Assumes nothing.
use Rattle.codec.specs.Choice.{pick}
use Rattle.swistopal_facts.proofs.bit.Goals as goal

pub returns-then-b : goal.returns-then-b
unfolding pick
returns-then-b c = rw c.if-b.true

pub returns-else-b : goal.returns-else-b
unfolding pick
returns-else-b c = rw c.if-b.false
