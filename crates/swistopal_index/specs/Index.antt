-- The query as a C function: the number of its answer, with its numbers and positions. Assumes nothing.
use Rattle.std.specs.Prelude.{ℕ, List, [], ◌∷◌}
use Rattle.units.specs.Answers.{number_of}
use Rattle.index_query.specs.Query.{QueryOutcome, queried}
use Rattle.interface.specs.Structs.{index_sizes_in}

-- `swistopal_found`: positions, items_read
pub record Query : Type 0 where
  pub answer : ℕ
  pub out : List ℕ
  pub found : List ℕ

unfoldable pub query_gives : QueryOutcome → Query
query_gives r = record { answer = number_of r.made.answer; out = r.out; found = r.made.found ∷ r.made.read ∷ [] }

unfoldable pub query : List ℕ → List ℕ → List ℕ → List ℕ → ℕ → ℕ → ℕ → List ℕ → Query
query sizes index topic key first last wanted out =
    query_gives (queried (index_sizes_in sizes).slot_count (index_sizes_in sizes).item_count index topic key first last wanted out)
