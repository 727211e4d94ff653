-- `directory::row_from` meets its contract: the row's number is its place among the rows. Assumes nothing.
use mathlib.Core.Path.{refl, ◌∙◌}
use Rattle.std.proofs.Common.{rules, inl}
use Rattle.std.proofs.lemmas.Iterator.Consumers.{YieldsList-from_first}
use Rattle.std.proofs.lemmas.Iterator.Search.{position_from_yields_List}
use Rattle.directory.specs.Directory.{names}
use Rattle.directory.specs.Inner.{queue_of, rows_of}
use Rattle.directory.proofs.Walks.{rows_fit, sought}
use Rattle.directory.proofs.row_from.Goals as goal

pub position-requires-clause-fits : goal.position-requires-clause-fits
position-requires-clause-fits c = inl (rows_fit _ c.requires)

pub returns : goal.returns
returns c =
    position_from_yields_List (names c.args.topic.now c.args.id) c.position.new.self _ _ c.position.ensures.ran (YieldsList-from_first queue_of (λ s. rows_of s.rest.now) _ refl) (λ x b q k. search rules)
    ∙ sought c.args.topic.now c.args.id (rows_of c.args.dir.now)
