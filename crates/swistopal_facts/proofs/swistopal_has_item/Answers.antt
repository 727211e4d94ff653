-- `swistopal_facts::swistopal_has_item` meets its contract: the bit of its layer. Assumes nothing.
use Rattle.swistopal_facts.proofs.swistopal_has_item.Goals as goal

pub returns : goal.returns
returns c = rw (← c.has_item.ensures) c.bit.ensures
