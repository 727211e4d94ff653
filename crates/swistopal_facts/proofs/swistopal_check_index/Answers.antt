-- `swistopal_facts::swistopal_check_index` meets its contract: the number of the answer. Assumes nothing.
use Rattle.swistopal_facts.proofs.Told.{index_checked}
use Rattle.swistopal_facts.proofs.swistopal_check_index.Goals as goal

pub returns : goal.returns
returns c = index_checked _ _ c.index_sizes_in-z.ensures c.index_answer.ensures c.from.ensures
