-- The directory of queues: document 01, section "Directory". Assumes nothing.
use Rattle.std.specs.Prelude.{ℕ, zero, suc, ◌+◌, ◌-◌, Bool, true, false, not, ◌&&◌, Option, None, Some, List, [], ◌∷◌, eqb, leb, ltb, length, drop, get_or}
use Rattle.codec.specs.Bytes.{little, field, part, same}
use Rattle.codec.specs.Choice.{pick}

-- a listed queue
pub record Queue : Type 0 where
  pub topic : List ℕ
  pub id : ℕ

-- "House format, little-endian, length first. Row: length of the whole row (2 bytes, ..), kind (2 bytes, ..), queue id (4 bytes, ..), topic"
unfoldable pub row_length : List ℕ → ℕ
row_length bytes = field little 2 0 bytes

unfoldable pub row_kind : List ℕ → ℕ
row_kind bytes = field little 2 2 bytes

unfoldable pub row_id : List ℕ → ℕ
row_id bytes = field little 4 4 bytes

unfoldable pub row_queue : List ℕ → Queue
row_queue bytes = record { topic = part (row_length bytes - 8) 8 bytes; id = row_id bytes }

-- "(.., value 1)"
unfoldable pub kind_ok : ℕ → Bool
kind_ok kind = eqb kind 1

-- "(2 bytes, 9 to 135) .. (2 bytes, value 1) .. (4 bytes, below 2^31)": whether the bytes begin with a row
unfoldable pub row_ok : List ℕ → Bool
row_ok bytes =
    leb 8 (length bytes)
    && (leb 9 (row_length bytes) && leb (row_length bytes) 135 && leb (row_length bytes) (length bytes))
    && (kind_ok (row_kind bytes) && ltb (row_id bytes) 2147483648)

unfoldable pub before : Queue → Option (List Queue) → Option (List Queue)
before q None = None
before q (Some qs) = Some (q ∷ qs)

-- "Rows fill the buffer exactly": the queues of at most n rows, if the bytes are that
unfoldable pub rows_within : ℕ → List ℕ → Option (List Queue)
rows_within zero bytes = pick (eqb (length bytes) 0) (Some []) None
rows_within (suc n) bytes =
    pick (eqb (length bytes) 0) (Some [])
    (pick (row_ok bytes) (before (row_queue bytes) (rows_within n (drop (row_length bytes) bytes))) None)

-- the queue of row i; rows are counted from 0
abbrev pub row : List Queue → ℕ → Queue
row qs i = get_or qs i (record { topic = []; id = 0 })

-- whether the queue is this topic's and id's
unfoldable pub names : List ℕ → ℕ → Queue → Bool
names topic id q = eqb q.id id && same q.topic topic

-- the number of the first row of this topic and id, the first row's number being n
unfoldable pub row_from : ℕ → List ℕ → ℕ → List Queue → Option ℕ
row_from n topic id [] = None
row_from n topic id (q ∷ qs) = pick (names topic id q) (Some n) (row_from (n + 1) topic id qs)

unfoldable pub listed : Option ℕ → Bool
listed None = false
listed (Some n) = true

-- "no two name the same topic and id"
unfoldable pub distinct : List Queue → Bool
distinct [] = true
distinct (q ∷ qs) = not (listed (row_from 0 q.topic q.id qs)) && distinct qs

-- the listed queues, by row; none where the directory is bad
unfoldable pub distinct_rows : Option (List Queue) → List Queue
distinct_rows None = []
distinct_rows (Some qs) = pick (distinct qs) qs []

-- "Queues: 1 to 16"
unfoldable pub queues : List ℕ → List Queue
queues directory = distinct_rows (rows_within 16 directory)

-- "3: directory bad or not 1 to 16 rows"
unfoldable pub counted : List Queue → Option ℕ
counted [] = None
counted (q ∷ qs) = Some (length (q ∷ qs))

unfoldable pub row_count : List ℕ → Option ℕ
row_count directory = counted (queues directory)

-- "Row i owns region i of the queue buffer": the row of a topic and id
unfoldable pub row_of : List ℕ → ℕ → List ℕ → Option ℕ
row_of topic id directory = row_from 0 topic id (queues directory)
