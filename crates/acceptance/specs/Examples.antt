-- Worked examples of readings on which careful readers differ (docs/DECISIONS.md), as data like the bench's. Assumes nothing.
use Rattle.std.specs.Prelude.{ℕ, zero, suc, ◌+◌, Option, None, Some, List, [], ◌∷◌, ◌++◌, length, replicate}
use Rattle.codec.specs.Bytes.{little, bytes_of}
use Rattle.java_hash.specs.Hash.{index_hash}
use Rattle.properties.specs.declared.Found.{Found}
use Rattle.properties.specs.declared.Found.TheVariants.{Absent, One, Many}
use Rattle.properties.specs.Finder.{keys_name, finder, found_bytes}
use Rattle.properties.specs.Keys.{key_places}
use Rattle.directory.specs.Directory.{row_count, row_of}
use Rattle.acceptance.specs.Bench.{Row, Holds, keys}

-- what is found: absent 0, one 1, more than one 2, then the place and the length
abbrev pub shown_found : Found → List ℕ
shown_found Absent = 0 ∷ []
shown_found (One p) = 1 ∷ p.at ∷ p.len ∷ []
shown_found (Many p) = 2 ∷ p.at ∷ p.len ∷ []

abbrev pub keys_found : List ℕ → List ℕ
keys_found properties = shown_found (finder keys_name properties)

abbrev pub keys_counted : List ℕ → List ℕ
keys_counted properties = length (key_places (found_bytes (finder keys_name properties) properties)) ∷ []

unfoldable pub property_examples : List Row
property_examples =
    -- `KEYS 01 a 01`: two separators make no pair; the next pair counts
    record { given = keys_found (keys (97 ∷ 1 ∷ [])); wanted = 0 ∷ [] }
    ∷ record { given = keys_found (keys (97 ∷ 1 ∷ 98 ∷ 2 ∷ keys (99 ∷ []))); wanted = 1 ∷ 14 ∷ 1 ∷ [] }
    -- `01 a` has no name; a trailing 02 ends nothing
    ∷ record { given = keys_found (1 ∷ 97 ∷ 2 ∷ keys (98 ∷ 2 ∷ [])); wanted = 1 ∷ 8 ∷ 1 ∷ [] }
    -- a later piece that is no pair erases nothing
    ∷ record { given = keys_found (keys (97 ∷ 2 ∷ keys [])); wanted = 1 ∷ 5 ∷ 1 ∷ [] }
    -- the last pair counts, also where it makes no key
    ∷ record { given = keys_found (keys (97 ∷ 2 ∷ keys (98 ∷ []))); wanted = 2 ∷ 12 ∷ 1 ∷ [] }
    ∷ record { given = keys_counted (keys (97 ∷ 2 ∷ keys (32 ∷ 32 ∷ []))); wanted = 0 ∷ [] }
    -- separators only; `KEYSX`, ` KEYS`, `keys`
    ∷ record { given = keys_found (2 ∷ 2 ∷ []); wanted = 0 ∷ [] }
    ∷ record { given = keys_found (75 ∷ 69 ∷ 89 ∷ 83 ∷ 88 ∷ 1 ∷ 97 ∷ []); wanted = 0 ∷ [] }
    ∷ record { given = keys_found (32 ∷ keys (97 ∷ [])); wanted = 0 ∷ [] }
    ∷ record { given = keys_found (107 ∷ 101 ∷ 121 ∷ 115 ∷ 1 ∷ 97 ∷ []); wanted = 0 ∷ [] }
    -- KEYS `a  a`: two keys, the repeat kept
    ∷ record { given = keys_counted (keys (97 ∷ 32 ∷ 32 ∷ 97 ∷ [])); wanted = 2 ∷ [] }
    ∷ []

-- topic T: keys a, b, c; `Aa` and `BB`; `1LG3HE3`, whose hash is the least number; topic `T#a` key b against topic T key `a#b`
unfoldable pub hash_examples : List Row
hash_examples =
    record { given = index_hash (84 ∷ []) (97 ∷ []) ∷ index_hash (84 ∷ []) (98 ∷ []) ∷ index_hash (84 ∷ []) (99 ∷ []) ∷ []; wanted = 81906 ∷ 81907 ∷ 81908 ∷ [] }
    ∷ record { given = index_hash (84 ∷ []) (65 ∷ 97 ∷ []) ∷ index_hash (84 ∷ []) (66 ∷ 66 ∷ []) ∷ []; wanted = 2538191 ∷ 2538191 ∷ [] }
    ∷ record { given = index_hash (84 ∷ []) (49 ∷ 76 ∷ 71 ∷ 51 ∷ 72 ∷ 69 ∷ 51 ∷ []) ∷ []; wanted = 0 ∷ [] }
    ∷ record { given = index_hash (84 ∷ 35 ∷ 97 ∷ []) (98 ∷ []) ∷ []; wanted = index_hash (84 ∷ []) (97 ∷ 35 ∷ 98 ∷ []) ∷ [] }
    ∷ []

-- a number of rows, or of a row: none 0; else 1 and the number
abbrev pub shown_number : Option ℕ → List ℕ
shown_number None = 0 ∷ []
shown_number (Some n) = 1 ∷ n ∷ []

abbrev pub shown_rows : List ℕ → List ℕ
shown_rows directory = shown_number (row_count directory)

-- a row of this kind, id and topic
abbrev pub directory_row : ℕ → ℕ → List ℕ → List ℕ
directory_row kind id topic = bytes_of little 2 (8 + length topic) ++ bytes_of little 2 kind ++ bytes_of little 4 id ++ topic

-- n rows of topic T, the ids from 0
unfoldable pub rows : ℕ → List ℕ
rows zero = []
rows (suc n) = directory_row 1 n (84 ∷ []) ++ rows n

unfoldable pub directory_examples : List Row
directory_examples =
    -- an empty buffer; no topic; topics of 127 and 128 bytes; a byte left over
    record { given = shown_rows []; wanted = 0 ∷ [] }
    ∷ record { given = shown_rows (directory_row 1 0 []); wanted = 0 ∷ [] }
    ∷ record { given = shown_rows (directory_row 1 0 (replicate 127 84)); wanted = 1 ∷ 1 ∷ [] }
    ∷ record { given = shown_rows (directory_row 1 0 (replicate 128 84)); wanted = 0 ∷ [] }
    ∷ record { given = shown_rows (directory_row 1 0 (84 ∷ []) ++ 9 ∷ []); wanted = 0 ∷ [] }
    -- 16 rows and 17
    ∷ record { given = shown_rows (rows 16); wanted = 1 ∷ 16 ∷ [] }
    ∷ record { given = shown_rows (rows 17); wanted = 0 ∷ [] }
    -- ids 2^31 − 1 and 2^31; kinds 2 and 256
    ∷ record { given = shown_rows (directory_row 1 2147483647 (84 ∷ [])); wanted = 1 ∷ 1 ∷ [] }
    ∷ record { given = shown_rows (directory_row 1 2147483648 (84 ∷ [])); wanted = 0 ∷ [] }
    ∷ record { given = shown_rows (directory_row 2 0 (84 ∷ [])); wanted = 0 ∷ [] }
    ∷ record { given = shown_rows (directory_row 256 0 (84 ∷ [])); wanted = 0 ∷ [] }
    -- the same topic with another id, and the same id with another topic; the same twice, a row between
    ∷ record { given = shown_rows (directory_row 1 0 (84 ∷ []) ++ directory_row 1 1 (84 ∷ []) ++ directory_row 1 0 (85 ∷ [])); wanted = 1 ∷ 3 ∷ [] }
    ∷ record { given = shown_rows (directory_row 1 0 (84 ∷ []) ++ directory_row 1 1 (84 ∷ []) ++ directory_row 1 0 (84 ∷ [])); wanted = 0 ∷ [] }
    -- rows are numbered from 0
    ∷ record { given = shown_number (row_of (84 ∷ []) 1 (directory_row 1 0 (84 ∷ []) ++ directory_row 1 1 (84 ∷ []))); wanted = 1 ∷ 1 ∷ [] }
    ∷ record { given = shown_number (row_of (85 ∷ []) 1 (directory_row 1 0 (84 ∷ []) ++ directory_row 1 1 (84 ∷ []))); wanted = 0 ∷ [] }
    ∷ []

unfoldable pub examples : List Row
examples = property_examples ++ hash_examples ++ directory_examples

abbrev pub ExamplesHold : Type 0
ExamplesHold = Holds examples
