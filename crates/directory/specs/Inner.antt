-- What the inner functions of the directory promise. Assumes nothing.
use Rattle.std.specs.Prelude.{ℕ, ◌+◌, ◌-◌, ◌*◌, ◌%◌, ◌≤◌, ◌≡◌, Some, unwrap_or, List, [], ◌∷◌, length, take, drop}
use Rattle.directory.specs.declared.Row.{Row}
use Rattle.directory.specs.Directory.{Queue, row_length, row_queue, rows_within}

-- the queue that a row tells of
abbrev pub queue_of : Row → Queue
queue_of r = record { topic = r.topic.now; id = r.id }

-- the queues of the rows that the bytes are made of
unfoldable pub rows_of : List ℕ → List Queue
rows_of bytes = unwrap_or (rows_within 16 bytes) []

-- the bytes are made of at most 16 rows
abbrev pub InRows : List ℕ → Type 0
InRows bytes = rows_within 16 bytes ≡ Some (rows_of bytes)

-- the bytes begin with a row
pub record Begins (bytes : List ℕ) : Type 0 where
  pub low : 9 ≤ row_length bytes
  pub fits : row_length bytes ≤ length bytes

-- bytes made of rows: the first has this size, and the others stand behind it
pub record First (bytes : List ℕ) (size : ℕ) : Type 0 where
  pub begins : Begins bytes
  pub own : size ≡ row_length bytes
  pub fits : size ≤ length bytes
  pub rest : InRows (take (length bytes - size) (drop size bytes))
  pub all : rows_of bytes ≡ row_queue bytes ∷ rows_of (take (length bytes - size) (drop size bytes))

-- one of 16 places for a queue, by the length of its topic and its id
abbrev pub bucket_of : Queue → ℕ
bucket_of q = (4 * (length q.topic % 4) + q.id) % 16
