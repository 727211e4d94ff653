-- The query with its door: the answer, the counts and the output for every input. Assumes nothing.
use Rattle.std.specs.Prelude.{ℕ, Bool, not, ◌&&◌, List, ◌++◌, leb, eqb, length, drop}
use Rattle.codec.specs.Choice.{pick}
use Rattle.utf8.specs.Utf8.{valid}
use Rattle.java_hash.specs.Hash.{index_hash}
use Rattle.units.specs.declared.Answer.TheVariants.{BadSizes, BadHeader, Malformed}
use Rattle.index_query.specs.declared.Queried.{Queried}
use Rattle.index_file.specs.Index.{time_ok, sizes_ok, header_sound}
use Rattle.index_query.specs.Walk.{Walked, ends, criteria_of, search}

-- "number wanted, 0 meaning 32"
unfoldable pub wanted_of : ℕ → ℕ
wanted_of wanted = pick (eqb wanted 0) 32 wanted

-- a text's length is 1 to most
abbrev pub text_fits : ℕ → ℕ → Bool
text_fits most len = leb 1 len && leb len most

-- "topic and key non-empty and within 127 and 32,767 bytes; first and last time in limits and ordered; number wanted .. not above the
-- output's places"
unfoldable pub query_fits : ℕ → ℕ → ℕ → ℕ → ℕ → ℕ → Bool
query_fits topic key first last wanted places =
    (text_fits 127 topic && text_fits 32767 key) && (leb first last && time_ok last) && leb wanted places

-- document 02, item 2: "Bytes that are not such UTF-8 (..) make .. a query .. holding them 17"
unfoldable pub query_ok : List ℕ → List ℕ → ℕ → ℕ → ℕ → ℕ → Bool
query_ok topic key first last wanted places =
    query_fits (length topic) (length key) first last wanted places && (valid topic && valid key)

-- "query 1, 4, 17"
unfoldable pub query_walk : ℕ → ℕ → List ℕ → List ℕ → List ℕ → ℕ → ℕ → ℕ → ℕ → Walked
query_walk k n index topic key first last wanted places =
    pick (not (sizes_ok k n (length index))) (ends BadSizes)
    (pick (not (header_sound n index)) (ends BadHeader)
    (pick (not (query_ok topic key first last (wanted_of wanted) places)) (ends Malformed)
    (search k index (criteria_of index (index_hash topic key) first last) (wanted_of wanted))))

-- what a query gives and leaves: the result, and the output
pub record QueryOutcome : Type 0 where
  pub made : Queried
  pub out : List ℕ

-- "Output past the matches is unchanged"
unfoldable pub reported : Walked → List ℕ → QueryOutcome
reported w out =
    record { made = record { answer = w.answer; found = length w.found; read = w.read }; out = w.found ++ drop (length w.found) out }

unfoldable pub queried : ℕ → ℕ → List ℕ → List ℕ → List ℕ → ℕ → ℕ → ℕ → List ℕ → QueryOutcome
queried k n index topic key first last wanted out = reported (query_walk k n index topic key first last wanted (length out)) out
