-- `index_query::query` meets its contract: the door, then the walk. Assumes nothing.
use mathlib.Core.Path.{sym, ◌∙◌}
use Rattle.index_query.proofs.QueryDoor.{refused_index, refused_query, asked, base_within, enough_places}
use Rattle.index_query.proofs.query.Goals as goal

pub returns-in-Err : goal.returns-in-Err
returns-in-Err c = refused_index _ _ _ _ _ _ _ _ _ c.in-Err.ensures.refused c.new.ensures

pub returns-in_default : goal.returns-in_default
returns-in_default c =
    refused_query _ _ _ _ _ _ _ _ _ c.in-Ok.ensures.refused c.wanted_of-most.ensures c.query_fits-fits.ensures
    (sym c.in_default.is ∙ c.hash_if-hashed.ensures) c.new-in_default.ensures

pub walk_chain-requires : goal.walk_chain-requires
walk_chain-requires c =
    (base_within _ _ _ _ c.criteria_for-criteria.ensures c.in-Ok.index.time_within, enough_places _ _ _ _ _ _ c.query_fits-fits.ensures (sym c.in-Some.is ∙ c.hash_if-hashed.ensures))

pub returns : goal.returns
returns c =
    let o = c.in-Ok.ensures.opened in
    asked _ _ _ _ _ _ _ _ _ c.in-Ok.ensures.refused c.wanted_of-most.ensures c.query_fits-fits.ensures o.0 o.1 (sym c.in-Some.is ∙ c.hash_if-hashed.ensures) c.criteria_for-criteria.ensures c.walk_chain.ensures
