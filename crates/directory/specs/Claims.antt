-- What callers of the directory may rely on, as statements. Assumes nothing.
use Rattle.std.specs.Prelude.{ℕ, ◌≤◌, ◌<◌, ◌≡◌, true, None, Some, List, [], length}
use Rattle.directory.specs.Directory.{Queue, names, row, queues, row_count, row_of}

-- row i is there, and has this topic and id
pub record Fits (topic : List ℕ) (id : ℕ) (qs : List Queue) (i : ℕ) : Type 0 where
  pub within : i < length qs
  pub named : names topic id (row qs i) ≡ true

-- "Queues: 1 to 16": a directory that is not refused has as many rows as it says
abbrev pub ListingRows : Type 0
ListingRows = (d : List ℕ) (n : ℕ) → row_count d ≡ Some n → (length (queues d) ≡ n) × (0 < n) × (n ≤ 16)

abbrev pub ListingRefused : Type 0
ListingRefused = (d : List ℕ) → row_count d ≡ None → queues d ≡ []

-- the row that is found fits
abbrev pub RowFound : Type 0
RowFound = (topic : List ℕ) (id : ℕ) (d : List ℕ) (i : ℕ) → row_of topic id d ≡ Some i → Fits topic id (queues d) i

-- where none is found, none fits
abbrev pub RowNone : Type 0
RowNone = (topic : List ℕ) (id : ℕ) (d : List ℕ) → row_of topic id d ≡ None → (i : ℕ) → Fits topic id (queues d) i → ⊥

-- at most one row fits
abbrev pub OneRow : Type 0
OneRow = (topic : List ℕ) (id : ℕ) (d : List ℕ) (i j : ℕ) → Fits topic id (queues d) i → Fits topic id (queues d) j → i ≡ j

-- "no two name the same topic and id": wherever the two rows stand
abbrev pub RowsDiffer : Type 0
RowsDiffer =
    (d : List ℕ) (i j : ℕ) → i < length (queues d) → j < length (queues d)
    → (row (queues d) i).topic ≡ (row (queues d) j).topic → (row (queues d) i).id ≡ (row (queues d) j).id → i ≡ j
