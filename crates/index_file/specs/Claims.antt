-- What callers of the index file may rely on, as statements. Assumes nothing.
use Rattle.std.specs.Prelude.{ℕ, ◌≡◌, true, false, List, length}
use Rattle.codec.specs.Bytes.{part}
use Rattle.units.specs.declared.Answer.TheVariants.{Done}
use Rattle.index_file.specs.Index.{sizes_ok, header_sound}
use Rattle.index_file.specs.Items.{any_bad_slot, items_answer, put_all}
use Rattle.index_file.specs.Room.{Room, IndexSized}

-- sizes and header, judged at the door, are what the check of a record's items needs
abbrev pub DoorSized : Type 0
DoorSized = (k n : ℕ) (index : List ℕ) → sizes_ok k n (length index) ≡ true → header_sound n index ≡ true → IndexSized k n index

-- where rule 7 lets a record's items pass there is room for them
abbrev pub CheckedRoom : Type 0
CheckedRoom = (k n : ℕ) (index : List ℕ) (position : ℕ) (hs : List ℕ) → IndexSized k n index → items_answer k n index position hs ≡ Done → Room k n index (length hs)

-- an index that the door lets through, with room for a record's items, is one after they are put
abbrev pub PutAllSized : Type 0
PutAllSized = (k n position time : ℕ) (hs index : List ℕ) → Room k n index (length hs) → IndexSized k n (put_all k position time hs index)

-- slots that are good stay good, whatever items are put
abbrev pub GoodSlotsStay : Type 0
GoodSlotsStay =
    (k n : ℕ) (index hs gs : List ℕ) (position time : ℕ) → Room k n index (length gs) → any_bad_slot k index hs ≡ false
    → any_bad_slot k (put_all k position time gs index) hs ≡ false

-- good slots of a list are good slots of a part of it
abbrev pub GoodSlotsPart : Type 0
GoodSlotsPart = (k : ℕ) (index l : List ℕ) (w at : ℕ) → any_bad_slot k index l ≡ false → any_bad_slot k index (part w at l) ≡ false
