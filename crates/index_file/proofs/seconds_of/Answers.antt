-- `index_file::seconds_of` meets its contract, by its test. Assumes nothing.
use borrow.Author.Tests.{eq-eqb, ne_eqb}
use Rattle.codec.specs.Choice.{pick}
use Rattle.index_file.specs.Index.{seconds_of}
use Rattle.index_file.proofs.seconds_of.Goals as goal

pub returns-then-first_time-eq0 : goal.returns-then-first_time-eq0
unfolding seconds_of pick
returns-then-first_time-eq0 c = rw (eq-eqb _ _ c.if-first_time-eq0.true)

pub returns : goal.returns
unfolding seconds_of pick
returns c = rw (ne_eqb _ _ c.if-first_time-eq0.false) cc
