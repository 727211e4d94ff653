-- `swistopal_facts::place_of` meets its contract: a place by default is empty. Assumes nothing.
use Rattle.std.proofs.Common.{rules}
use Rattle.swistopal_facts.proofs.Told.{placed}
use Rattle.swistopal_facts.proofs.place_of.Goals as goal

pub returns : goal.returns
returns c = placed (λ r d. search rules) _ _ c.place.ensures c.unwrap_or_default.ensures
