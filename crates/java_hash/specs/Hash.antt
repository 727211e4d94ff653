-- The hash of Java's strings, the tag code, the index hash and the slot: document 01, section "Properties and hashes". Assumes nothing.
use Rattle.std.specs.Prelude.{ℕ, ◌+◌, ◌-◌, ◌*◌, ◌%◌, List, [], ◌∷◌, ◌++◌, ◌==◌, nat_lt}
use Rattle.codec.specs.Choice.{pick}
use Rattle.utf8.specs.Utf8.{units}

-- document 02, item 2: "RocketMQ hashes Java strings, so 16-bit units"; "the hash now runs over the UTF-16 units" (`units` of utf8)

-- "h becomes 31 times h plus the next byte, modulo 4,294,967,296": h continued over the units
unfoldable pub hash_from : ℕ → List ℕ → ℕ
hash_from h [] = h
hash_from h (u ∷ us) = hash_from ((31 * h + u) % 4294967296) us

-- "start at 0"
unfoldable pub hash_of : List ℕ → ℕ
hash_of bytes = hash_from 0 (units bytes)

-- "read as signed 32-bit at the end"
pub data Signed : Type 0 where
  plus : ℕ → Signed
  minus : ℕ → Signed

unfoldable pub signed : ℕ → Signed
signed h = pick (nat_lt h 2147483648) (plus h) (minus (4294967296 - h))

-- "Tag code: that signed number carried into 64 bits"
unfoldable pub carried : Signed → ℕ
carried (plus n) = n
carried (minus n) = 18446744073709551616 - n

unfoldable pub tag_code : List ℕ → ℕ
tag_code tags = carried (signed (hash_of tags))

-- "its absolute value, and 0 for −2,147,483,648"
unfoldable pub absolute : Signed → ℕ
absolute (plus n) = n
absolute (minus n) = pick (n == 2147483648) 0 n

-- "Index hash: of topic, `#`, key"
unfoldable pub index_hash : List ℕ → List ℕ → ℕ
index_hash topic key = absolute (signed (hash_from 0 (units topic ++ 35 ∷ units key)))

-- "Slot: index hash mod K"
unfoldable pub slot_of : ℕ → ℕ → ℕ
slot_of k hash = hash % k

-- ---- the index hash in two steps: topic and `#` once, then each key

unfoldable pub topic_hash : List ℕ → ℕ
topic_hash topic = hash_from 0 (units topic ++ 35 ∷ [])

unfoldable pub key_hash : ℕ → List ℕ → ℕ
key_hash prefix key = absolute (signed (hash_from prefix (units key)))
