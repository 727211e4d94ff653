-- What the inner functions need and promise. Assumes nothing.
use Rattle.std.specs.Prelude.{ℕ, ◌≡◌, Bool, List, eqb}
use Rattle.codec.specs.Bytes.{overwrite}
use Rattle.codec.specs.Choice.{pick}
use Rattle.java_hash.specs.Hash.{slot_of}
use Rattle.units.specs.declared.LogPosition.{LogPosition}
use Rattle.index_file.specs.Index.{store, slot_at, slot_value, item_at, item_bytes}

-- the seconds of a record's next item, after item u
unfoldable pub seconds_after : ℕ → ℕ → ℕ
seconds_after u seconds = pick (eqb u 1) 0 seconds

-- the header's counts, its last fields and, of a fresh index, its first ones
unfoldable pub with_header : Bool → ℕ → ℕ → ℕ → ℕ → List ℕ → List ℕ
with_header fresh used filled position time index =
    let m = store 8 24 position (store 8 8 time (store 4 36 used (store 4 32 filled index))) in
    pick fresh (store 8 16 position (store 8 0 time m)) m

-- item u and its slot
unfoldable pub with_item : ℕ → ℕ → ℕ → LogPosition → ℕ → List ℕ → List ℕ
with_item k u hash position seconds index =
    let s = slot_of k hash in
    store 4 (slot_at s) u
    (overwrite index (item_at k u) (item_bytes (record { hash = hash; position = position; seconds = seconds; previous = slot_value index s })))

-- item u put, without the header: r was in its slot
pub record Entered (k u hash : ℕ) (position : LogPosition) (seconds : ℕ) (index : List ℕ) (r : ℕ) (after : List ℕ) : Type 0 where
  pub previous : r ≡ slot_value index (slot_of k hash)
  pub stands : after ≡ with_item k u hash position seconds index
