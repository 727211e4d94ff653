-- An index with room for items, as the door lets it through, and the place of a slot. Assumes nothing.
use Rattle.std.specs.Prelude.{ℕ, ◌+◌, ◌*◌, ◌<◌, ◌≤◌, ◌≡◌, List, length}
use Rattle.index_file.specs.Index.{used_count, filled_slots, slot_at}

-- an index of k slots and n places for items, with room for so many items
pub record Room (k n : ℕ) (index : List ℕ) (items : ℕ) : Type 0 where
  pub some : 0 < k
  pub most : k ≤ 5000000
  pub few : n ≤ 20000000
  pub long : length index ≡ 40 + 4 * k + 20 * n
  pub count : used_count index + items ≤ n
  pub fill : filled_slots index < used_count index

-- the same, as the door lets it through
abbrev pub IndexSized : ℕ → ℕ → List ℕ → Type 0
IndexSized k n index = Room k n index 0

-- the place of slot s, of k
pub record SlotPlace (k s at : ℕ) : Type 0 where
  pub place : at ≡ slot_at s
  pub within : at + 4 ≤ 40 + 4 * k
