-- `swistopal_facts::index_answer` meets its contract: what an index is refused with, or that it is in order. Assumes nothing.
use mathlib.Core.Path.{sym}
use Rattle.swistopal_facts.proofs.Told.{index_told}
use Rattle.swistopal_facts.proofs.index_answer.Goals as goal

pub returns : goal.returns
returns c = rw (c.unwrap_or.ensures, c.err.ensures.value, c.open.ensures.refused) (sym (index_told _ _))
