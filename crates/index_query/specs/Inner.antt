-- What the inner functions of the walk and the query promise. Assumes nothing.
use Rattle.std.specs.Prelude.{ℕ, Bool, ◌&&◌, List, ltb, Option, Some, None}
use Rattle.codec.specs.Choice.{pick}
use Rattle.utf8.specs.Utf8.{valid}
use Rattle.java_hash.specs.Hash.{index_hash}
use Rattle.index_file.specs.declared.Item.{Item}
use Rattle.index_query.specs.declared.Criteria.{Criteria}
use Rattle.index_query.specs.declared.Verdict.{Verdict}
use Rattle.index_query.specs.declared.Verdict.TheVariants.{Damaged, Match, Early, Pass}
use Rattle.index_query.specs.Walk.{item_time, hit, damaged}

-- what reading an item comes to
unfoldable pub verdict_of : Criteria → Item → Verdict
verdict_of q e = pick (damaged e) Damaged (pick (hit q e) Match (pick (ltb (item_time q e) q.begin) Early Pass))

-- the index hash of a query that fits but for its text, if it is well-formed
unfoldable pub hash_if : Bool → List ℕ → List ℕ → Option ℕ
hash_if fits topic key = pick (fits && (valid topic && valid key)) (Some (index_hash topic key)) None
