-- What callers of a query may rely on, on any bytes, as statements. Assumes nothing.
use Rattle.std.specs.Prelude.{ℕ, ◌-◌, ◌≤◌, ◌≡◌, false, ◌&&◌, ◌||◌, List, ◌++◌, leb, length, drop}
use Rattle.units.specs.declared.Answer.TheVariants.{Done}
use Rattle.index_file.specs.Index.{sizes_ok, header_sound, used_count}
use Rattle.index_query.specs.Query.{wanted_of, query_ok, QueryOutcome, queried}

-- a query that is done, with these positions in front of the output and the rest of it unchanged
pub record Finds (ms out : List ℕ) (r : QueryOutcome) : Type 0 where
  pub answer : r.made.answer ≡ Done
  pub found : r.made.found ≡ length ms
  pub output : r.out ≡ ms ++ drop (length ms) out

-- on any bytes a query reads no more items than there are
abbrev pub ReadsFew : Type 0
ReadsFew =
    (k n : ℕ) (index topic key : List ℕ) (first last wanted : ℕ) (out : List ℕ)
    → (queried k n index topic key first last wanted out).made.read ≤ used_count index - 1

-- "A call refused at the door .. returns .. 0 for all else", "nothing changed"
pub record Unchanged (out : List ℕ) (r : QueryOutcome) : Type 0 where
  pub found : r.made.found ≡ 0
  pub read : r.made.read ≡ 0
  pub output : r.out ≡ out

abbrev pub QueryRefused : Type 0
QueryRefused =
    (k n : ℕ) (index topic key : List ℕ) (first last wanted : ℕ) (out : List ℕ)
    → (sizes_ok k n (length index) && header_sound n index && query_ok topic key first last (wanted_of wanted) (length out)) ≡ false
    → Unchanged out (queried k n index topic key first last wanted out)

-- "a value below 0 or not below the used count": a negative number, read without a sign, is not below any used count
abbrev pub BelowZero : Type 0
BelowZero = (before number : ℕ) → before ≤ 2147483648 → (leb 2147483648 number || leb before number) ≡ leb before number
