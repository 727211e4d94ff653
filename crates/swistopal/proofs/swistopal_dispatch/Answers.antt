-- `swistopal::swistopal_dispatch` meets its contract: its layer's outcome, in numbers. Assumes nothing.
use Rattle.swistopal.proofs.Made.{dispatched}
use Rattle.swistopal.proofs.swistopal_dispatch.Goals as goal

pub returns : goal.returns
returns c =
    dispatched _ _ _ _ _ _ _ _ _ _ _ _ _ _ c.sizes_in.ensures c.progress_in-now.ensures c.counts_in-counts.ensures c.dispatch-made.ensures c.put_progress.ensures c.from.ensures
