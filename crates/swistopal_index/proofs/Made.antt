-- What the query promised, as the C function's numbers. Assumes nothing.
use Prim.Native.Nat.{ℕ}
use mathlib.Core.Path.{◌≡◌, ◌∙◌, ap}
use mathlib.Core.List.{List, [], ◌∷◌}
use Rattle.units.specs.Answers.{number_of}
use Rattle.index_file.specs.declared.IndexSizes.{IndexSizes}
use Rattle.index_query.specs.declared.Queried.{Queried}
use Rattle.index_query.specs.Query.{queried}
use Rattle.interface.specs.Structs.{index_sizes_in}
use Rattle.swistopal_index.specs.Index.{query_gives, query}

pub query_made : (sizes index topic key : List ℕ) (first last wanted : ℕ) (out : List ℕ) {z : IndexSizes} (r : Queried) (out' : List ℕ) (n : ℕ)
    → z ≡ index_sizes_in sizes
    → record { made = r; out = out' } ≡ queried z.slot_count z.item_count index topic key first last wanted out → n ≡ number_of r.answer
    → record { answer = n; out = out'; found = r.found ∷ r.read ∷ [] } ≡ query sizes index topic key first last wanted out
unfolding query query_gives
query_made sizes index topic key first last wanted out r out' n z e h =
    (λ i. record { answer = h i; out = out'; found = r.found ∷ r.read ∷ [] })
    ∙ ap query_gives e
    ∙ (λ i. query_gives (queried (z i).slot_count (z i).item_count index topic key first last wanted out))
