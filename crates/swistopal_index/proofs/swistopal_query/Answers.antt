-- `swistopal_index::swistopal_query` meets its contract: its layer's outcome, in numbers. Assumes nothing.
use Rattle.swistopal_index.proofs.Made.{query_made}
use Rattle.swistopal_index.proofs.swistopal_query.Goals as goal

pub returns : goal.returns
returns c =
    query_made _ _ _ _ _ _ _ _ _ _ _ c.index_sizes_in.ensures c.query-made.ensures c.from.ensures
