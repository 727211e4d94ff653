-- `swistopal::swistopal_read_queue` meets its contract: its layer's outcome, in numbers. Assumes nothing.
use Rattle.swistopal.proofs.Made.{read_done, read_refused}
use Rattle.swistopal.proofs.swistopal_read_queue.Goals as goal

pub returns-in-Ok : goal.returns-in-Ok
returns-in-Ok c =
    read_done _ _ _ _ _ _ _ _ _ _ _ c.queue_entries_in.ensures c.counts_of.ensures c.tag_asked.ensures c.read_queue-made.ensures c.in-Ok.is c.from.ensures

pub returns-in-Err : goal.returns-in-Err
returns-in-Err c =
    read_refused _ _ _ _ _ _ _ _ _ _ _ c.queue_entries_in.ensures c.counts_of.ensures c.tag_asked.ensures c.read_queue-made.ensures c.in-Err.is c.from-in-Err.ensures
