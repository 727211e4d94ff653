-- `swistopal_log::swistopal_read_record` meets its contract: its layer's outcome, in numbers. Assumes nothing.
use Rattle.swistopal_log.proofs.Made.{record_read}
use Rattle.swistopal_log.proofs.swistopal_read_record.Goals as goal

pub returns : goal.returns
returns c = record_read _ _ _ _ _ _ _ c.geometry_in.ensures c.read_record-answer.ensures c.from.ensures
