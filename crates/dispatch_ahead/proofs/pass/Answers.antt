-- `dispatch_ahead::pass` meets its contract: a case for each thing that may stand behind the records. Assumes nothing.
use borrow.Author.Tests.{eq-eqb, ne_eqb}
use mathlib.Core.Path.{refl}
use Rattle.codec.specs.Choice.{pick}
use Rattle.dispatch_ahead.specs.Ahead.{pass_by}
use Rattle.dispatch_ahead.proofs.pass.Goals as goal

pub returns-in-Unread : goal.returns-in-Unread
unfolding pass_by
returns-in-Unread c = rw c.in-Unread.is refl

pub returns-in-Stop : goal.returns-in-Stop
unfolding pass_by
returns-in-Stop c = rw c.in-Stop.is refl

pub returns-in-Blank : goal.returns-in-Blank
unfolding pass_by
returns-in-Blank c = rw c.in-Blank.is refl

pub returns-in-Long : goal.returns-in-Long
unfolding pass_by pick
returns-in-Long c = rw (c.in-Long.is, eq-eqb _ _ c.if-steps-eq0.true) refl

pub returns-in-Long-2 : goal.returns-in-Long-2
unfolding pass_by pick
returns-in-Long-2 c = rw (c.in-Long.is, ne_eqb _ _ c.if-steps-eq0.false) refl
