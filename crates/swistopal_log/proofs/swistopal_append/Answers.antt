-- `swistopal_log::swistopal_append` meets its contract: its layer's outcome, in numbers. Assumes nothing.
use Rattle.swistopal_log.proofs.Made.{append_made}
use Rattle.swistopal_log.proofs.swistopal_append.Goals as goal

pub returns : goal.returns
returns c =
    append_made _ _ _ _ _ _ _ _ c.geometry_in.ensures c.append-made.ensures c.from.ensures
