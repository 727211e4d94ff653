-- `dispatch_request::gather_unique` meets its contract. Assumes nothing.
use mathlib.Core.Path.{sym, ◌∙◌}
use borrow.Author.Tests.{eqb-true, eqb-false}
use Rattle.dispatch_request.proofs.Gathering.{unique_none, unique_one}
use Rattle.dispatch_request.proofs.gather_unique.Goals as goal

pub returns-then-is_empty : goal.returns-then-is_empty
returns-then-is_empty c = unique_none _ _ _ (eqb-true _ _ (sym c.is_empty.ensures ∙ c.if-is_empty.true))

pub key_hash-requires : goal.key_hash-requires
key_hash-requires c = c.requires.0

pub returns : goal.returns
returns c = unique_one _ _ _ (eqb-false _ _ (sym c.is_empty.ensures ∙ c.if-is_empty.false)) c.requires.1 c.key_hash.ensures
