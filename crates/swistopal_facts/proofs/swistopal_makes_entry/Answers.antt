-- `swistopal_facts::swistopal_makes_entry` meets its contract: the bit of its layer. Assumes nothing.
use Rattle.swistopal_facts.proofs.swistopal_makes_entry.Goals as goal

pub returns : goal.returns
returns c = rw (← c.makes_entry.ensures) c.bit.ensures
