-- `dispatch_request::is_part` meets its contract. Assumes nothing.
use mathlib.Core.Path.{◌∙◌}
use lib.Dec.{eqb}
use Rattle.std.proofs.Common.{rules, tests}
use Rattle.std.specs.Cmp.Lexicographic.{pointwise}
use Rattle.std.proofs.lemmas.Iterator.Consumers.{YieldsList-from_first}
use Rattle.std.proofs.lemmas.Iterator.Search.{any_from_yields_List}
use Rattle.dispatch_request.specs.Request.{keys_at}
use Rattle.dispatch_request.proofs.Among.{any_among}
use Rattle.dispatch_request.proofs.is_part.Goals as goal

pub returns : goal.returns
unfolding keys_at
returns c =
    any_from_yields_List (λ k. pointwise eqb k c.args.key.now) _ _ _ c.any.ensures.ran (YieldsList-from_first (λ k. k.now) (λ keys. keys) _ c.new.ensures) (λ x b q k. search (rules, tests))
    ∙ any_among _ _
