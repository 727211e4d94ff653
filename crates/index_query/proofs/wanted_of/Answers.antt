-- `index_query::wanted_of` meets its contract, by its test. Assumes nothing.
use borrow.Author.Tests.{eq-eqb, ne_eqb}
use Rattle.codec.specs.Choice.{pick}
use Rattle.index_query.specs.Query.{wanted_of}
use Rattle.index_query.proofs.wanted_of.Goals as goal

pub returns-then-wanted-eq0 : goal.returns-then-wanted-eq0
unfolding wanted_of pick
returns-then-wanted-eq0 c = rw (eq-eqb _ _ c.if-wanted-eq0.true)

pub returns-else-wanted-eq0 : goal.returns-else-wanted-eq0
unfolding wanted_of pick
returns-else-wanted-eq0 c = rw (ne_eqb _ _ c.if-wanted-eq0.false)
