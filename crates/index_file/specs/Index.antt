-- The index file over its bytes: header, slots, items, and one item put. Document 01, section "The index". Assumes nothing.
use Rattle.std.specs.Prelude.{ℕ, ◌+◌, ◌*◌, ◌-◌, ◌/◌, min, max, Bool, ◌&&◌, ◌||◌, List, [], ◌∷◌, leb, ltb, eqb, length, Option, Some, None}
use Rattle.codec.specs.Bytes.{big, bytes_of, field, overwrite}
use Rattle.codec.specs.Choice.{pick}
use Rattle.codec.specs.Layout.{number, layout}
use Rattle.java_hash.specs.Hash.{slot_of}
use Rattle.units.specs.declared.Answer.{Answer}
use Rattle.units.specs.declared.Answer.TheVariants.{BadSizes, BadHeader}
use Rattle.units.specs.declared.LogPosition.{LogPosition}
use Rattle.index_file.specs.declared.Item.{Item}

-- bytes with the number v in the w bytes from place `at`
abbrev pub store : ℕ → ℕ → ℕ → List ℕ → List ℕ
store w at v bytes = overwrite bytes at (bytes_of big w v)

-- "Header: first time 0, last time 8, first position 16, last position 24, filled slots 32, used count 36"
abbrev pub first_time : List ℕ → ℕ
first_time index = field big 8 0 index

abbrev pub last_time : List ℕ → ℕ
last_time index = field big 8 8 index

abbrev pub first_position : List ℕ → ℕ
first_position index = field big 8 16 index

abbrev pub last_position : List ℕ → ℕ
last_position index = field big 8 24 index

abbrev pub filled_slots : List ℕ → ℕ
filled_slots index = field big 4 32 index

-- "A used count of 0 reads as 1"
abbrev pub used_count : List ℕ → ℕ
used_count index = max 1 (field big 4 36 index)

-- "Index: K slots, 1 to 5,000,000; N items, 2 to 20,000,000; length exactly 40 + 4K + 20N"
unfoldable pub sizes_ok : ℕ → ℕ → ℕ → Bool
sizes_ok k n len = leb 1 k && leb k 5000000 && leb 2 n && leb n 20000000 && eqb len (40 + 4 * k + 20 * n)

-- "times within limits", "Times: 0 to 281,474,976,710,655 (2^48−1)"; "positions 0 to 2^40"
abbrev pub time_ok : ℕ → Bool
time_ok time = leb time 281474976710655

abbrev pub position_ok : ℕ → Bool
position_ok position = leb position 1099511627776

-- "the four 8-byte fields all 0"
unfoldable pub untouched : List ℕ → Bool
untouched index = eqb (first_time index) 0 && eqb (last_time index) 0 && eqb (first_position index) 0 && eqb (last_position index) 0

-- "Sound: used count 1 to N; filled slots 0 to used count − 1; times within limits; positions 0 to 2^40; the four 8-byte fields all 0 if the
-- used count is 1"
unfoldable pub header_sound : ℕ → List ℕ → Bool
header_sound n index =
    leb (used_count index) n && leb (filled_slots index) (used_count index - 1)
    && (time_ok (first_time index) && time_ok (last_time index))
    && (position_ok (first_position index) && position_ok (last_position index))
    && (ltb 1 (used_count index) || untouched index)

-- what an index is refused with, 1 before 4: its sizes or its header are not in order
unfoldable pub index_refusal : ℕ → ℕ → List ℕ → Option Answer
index_refusal k n index = pick (sizes_ok k n (length index)) (pick (header_sound n index) None (Some BadHeader)) (Some BadSizes)

-- slot s, of 4 bytes, behind the header
abbrev pub slot_at : ℕ → ℕ
slot_at s = 40 + 4 * s

abbrev pub slot_value : List ℕ → ℕ → ℕ
slot_value index s = field big 4 (slot_at s) index

-- "Item u (u = used count) at 40 + 4K + 20u"
abbrev pub item_at : ℕ → ℕ → ℕ
item_at k u = 40 + 4 * k + 20 * u

-- "hash 4, position 8, seconds 4, previous slot value 4"
unfoldable pub item_bytes : Item → List ℕ
item_bytes e = layout (number 4 e.hash ∷ number 8 e.position.0 ∷ number 4 e.seconds ∷ number 4 e.previous ∷ [])

unfoldable pub item_of : ℕ → List ℕ → ℕ → Item
item_of k index u =
    record {
      hash = field big 4 (item_at k u) index;
      position = record { 0 = field big 8 (item_at k u + 4) index };
      seconds = field big 4 (item_at k u + 12) index;
      previous = field big 4 (item_at k u + 16) index;
    }

-- "Seconds: (store time − first time) / 1000 rounded down, kept within 0 to 2,147,483,647; 0 if the first time is 0"
unfoldable pub seconds_of : ℕ → ℕ → ℕ
seconds_of first time = pick (eqb first 0) 0 (min ((time - first) / 1000) 2147483647)

-- the header after item u: "used count becomes u + 1, last fields are set, and for u = 1 the first fields too"
unfoldable pub header_after : ℕ → ℕ → ℕ → ℕ → List ℕ → List ℕ
header_after u filled position time index =
    let m = store 8 24 position (store 8 8 time (store 4 36 (u + 1) (store 4 32 filled index))) in
    pick (eqb u 1) (store 8 16 position (store 8 0 time m)) m

-- the item that a put makes: "previous slot value"
unfoldable pub item_for : ℕ → ℕ → LogPosition → ℕ → List ℕ → Item
item_for k hash position time index =
    record { hash = hash; position = position; seconds = seconds_of (first_time index) time; previous = slot_value index (slot_of k hash) }

-- "filled slots grows by 1 if it was 0": it is the slot's value before
unfoldable pub filled_after : ℕ → ℕ → ℕ
filled_after filled previous = filled + pick (eqb previous 0) 1 0

-- "Then the slot takes u, filled slots grows by 1 if it was 0, used count becomes u + 1, .."
unfoldable pub put : ℕ → ℕ → ℕ → ℕ → List ℕ → List ℕ
put k hash position time index =
    let u = used_count index in
    let s = slot_of k hash in
    header_after u (filled_after (filled_slots index) (slot_value index s)) position time
    (store 4 (slot_at s) u (overwrite index (item_at k u) (item_bytes (item_for k hash (record { 0 = position }) time index))))
