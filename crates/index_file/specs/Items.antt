-- The index items of one record, given by their hashes: rule 7 of document 01's "One dispatch step". Assumes nothing.
use Rattle.std.specs.Prelude.{ℕ, ◌+◌, Bool, false, ◌&&◌, ◌||◌, List, [], ◌∷◌, leb, ltb, eqb, length}
use Rattle.codec.specs.Choice.{pick}
use Rattle.java_hash.specs.Hash.{slot_of}
use Rattle.units.specs.declared.Answer.{Answer}
use Rattle.units.specs.declared.Answer.TheVariants.{Done, IndexFull, IndexAhead, ChainBroken}
use Rattle.index_file.specs.Index.{used_count, last_position, slot_value, put}

-- "15 if the index has an item and p is not above its last position"
unfoldable pub is_ahead : List ℕ → ℕ → Bool
is_ahead index position = ltb 1 (used_count index) && leb position (last_position index)

-- "14 unless used count + items ≤ N"
unfoldable pub is_full : ℕ → List ℕ → ℕ → Bool
is_full n index items = ltb n (used_count index + items)

-- "16 if a slot they need holds a value below 0 or not below the used count": below 0 reads as above every used count (`BelowZero`)
unfoldable pub bad_slot : ℕ → List ℕ → ℕ → Bool
bad_slot k index hash = leb (used_count index) (slot_value index (slot_of k hash))

unfoldable pub any_bad_slot : ℕ → List ℕ → List ℕ → Bool
any_bad_slot k index [] = false
any_bad_slot k index (h ∷ hs) = bad_slot k index h || any_bad_slot k index hs

-- "Index items, if there are any: 15 ..; 14 ..; 16 ..", judged on the index before the record
unfoldable pub items_answer : ℕ → ℕ → List ℕ → ℕ → List ℕ → Answer
items_answer k n index position hs =
    pick (eqb (length hs) 0) Done
    (pick (is_ahead index position) IndexAhead
    (pick (is_full n index (length hs)) IndexFull
    (pick (any_bad_slot k index hs) ChainBroken Done)))

-- the record's items, put in order
unfoldable pub put_all : ℕ → ℕ → ℕ → List ℕ → List ℕ → List ℕ
put_all k position time [] index = index
put_all k position time (h ∷ hs) index = put_all k position time hs (put k h position time index)
