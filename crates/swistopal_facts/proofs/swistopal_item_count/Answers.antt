-- `swistopal_facts::swistopal_item_count` meets its contract: that of its layer, of the values that the scan told. Assumes nothing.
use Rattle.properties.proofs.Places.{scanned_values}
use Rattle.swistopal_facts.proofs.swistopal_item_count.Goals as goal

pub item_count-requires : goal.item_count-requires
item_count-requires c = scanned_values _ c.scan.ensures

pub returns : goal.returns
returns c = c.item_count.ensures
