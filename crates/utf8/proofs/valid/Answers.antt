-- `utf8::valid` meets its contract. Assumes nothing.
use mathlib.Core.Path.{sym, ◌∙◌}
use Rattle.utf8.proofs.Plains.{plain_valid}
use Rattle.utf8.proofs.valid.Goals as goal

pub returns-then-plain : goal.returns-then-plain
returns-then-plain c = c.if-plain.true ∙ sym (plain_valid _ (sym c.plain.ensures ∙ c.if-plain.true))
