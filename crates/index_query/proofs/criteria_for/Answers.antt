-- `index_query::criteria_for` meets its contract. Assumes nothing.
use Rattle.index_query.specs.Walk.{criteria_of}
use Rattle.index_query.proofs.criteria_for.Goals as goal

pub returns : goal.returns
unfolding criteria_of
returns c = cc
