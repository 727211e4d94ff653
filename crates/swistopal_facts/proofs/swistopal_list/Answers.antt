-- `swistopal_facts::swistopal_list` meets its contract: its layer's outcome, in numbers. Assumes nothing.
use Rattle.swistopal_facts.proofs.Told.{list_made}
use Rattle.swistopal_facts.proofs.swistopal_list.Goals as goal

pub returns : goal.returns
returns c = list_made _ _ _ _ c.list-made.ensures c.from.ensures
