-- `directory::Row::is_queue` meets its contract: a row names the topic and id if its id, its topic's length and its topic's bytes are theirs. Assumes nothing.
use mathlib.Core.Path.{sym, ◌∙◌}
use borrow.Author.Tests.{eqb-true, eqb-false}
use Rattle.directory.proofs.Reading.{names_other, names_longer, names_same}
use Rattle.directory.proofs.Row.is_queue.Goals as goal
use Rattle.directory.proofs.Row.is_queue.Goals.{then-self-id, else-self-id}

pub returns-then-self-topic : goal.returns-then-self-topic
returns-then-self-topic c = elim c.if-self-id.branch [
  | then-self-id w ↦ names_same _ _ _ w.if-self-id.true (eqb-true _ _ (sym w.value-is ∙ c.if-self-topic.true)) c.same_at.ensures
  | else-self-id w ↦ absurd (w.if-self-id.false (eqb-true _ _ (sym w.value-is ∙ c.if-self-topic.true)))
]

pub returns-else-self-topic : goal.returns-else-self-topic
returns-else-self-topic c = c.if-self-topic.false ∙ elim c.if-self-id.branch [
  | then-self-id w ↦ names_longer _ _ _ (eqb-false _ _ (sym w.value-is ∙ c.if-self-topic.false))
  | else-self-id w ↦ names_other _ _ _ w.if-self-id.false
]
