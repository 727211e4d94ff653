-- `swistopal_facts::swistopal_find_values` meets its contract: each place is that of its value. Assumes nothing.
use Rattle.properties.proofs.Places.{scanned_values}
use Rattle.swistopal_facts.proofs.Told.{values_made}
use Rattle.swistopal_facts.proofs.swistopal_find_values.Goals as goal

pub returns : goal.returns
returns c = values_made _ (scanned_values _ c.scan.ensures) c.place_of-tags.ensures c.place_of-keys.ensures c.place_of-unique_key.ensures
