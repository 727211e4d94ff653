-- `index_query::query_fits` meets its contract: its tests are the definition's. Assumes nothing.
use Rattle.index_query.specs.Query.{query_fits}
use Rattle.index_query.proofs.query_fits.Goals as goal

pub returns : goal.returns
unfolding query_fits
returns c = rw (c.text_fits.ensures, c.text_fits-2.ensures)
