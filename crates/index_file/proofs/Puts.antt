-- What one put changes, field by field. Assumes nothing.
use Prim.Native.Nat.{ℕ, suc, ◌+◌, ◌*◌, ◌-◌, ◌/◌, ◌≤◌, ◌<◌, min}
use mathlib.Core.Path.{◌≡◌, refl, ap, ◌∙◌}
use mathlib.Core.Bool.{Bool, true, false}
use mathlib.Core.List.{List, [], ◌∷◌}
use native.Mathlib.Nat.{add-zero, mod-eq_of_lt}
use native.Mathlib.Omega.{arith}
use native.Mathlib.Decide.{dec_lt}
use lib.Dec.{eqb}
use lib.ListN.{length}
use borrow.Author.Tests.{eq-eqb, ne_eqb}
use Rattle.codec.specs.Bytes.{big, field, overwrite}
use Rattle.codec.specs.Choice.{pick}
use Rattle.codec.specs.Layout.{number, piece_bytes, layout}
use Rattle.codec.proofs.Parts.{length_overwrite}
use Rattle.codec.proofs.Fields.{peel, field_inside, field_before}
use Rattle.codec.proofs.Layouts.{length_layout}
use Rattle.java_hash.specs.Hash.{slot_of}
use Rattle.java_hash.proofs.HashLaws.{slot_within}
use Rattle.units.specs.declared.LogPosition.{LogPosition}
use Rattle.index_file.specs.declared.Item.{Item}
use Rattle.index_file.specs.Index.{store, first_time, last_time, first_position, last_position, filled_slots, used_count, slot_at, slot_value, item_at, item_bytes, item_of, seconds_of, header_after, item_for, filled_after, put}
use Rattle.index_file.specs.Room.{Room}
use Rattle.index_file.specs.Inner.{seconds_after, with_header, with_item, Entered}
use Rattle.index_file.proofs.Stores.{length_store, stored, kept_before, kept_after}

-- ---- the steps of `put_entry`

pub entry_steps : (k u hash : ℕ) (position : LogPosition) (seconds : ℕ) (l : List ℕ) {slot previous : ℕ} {a b : List ℕ}
    → slot ≡ slot_at (slot_of k hash) → previous ≡ field big 4 slot l
    → a ≡ overwrite l (item_at k u) (item_bytes (record { hash = hash; position = position; seconds = seconds; previous = previous })) → b ≡ store 4 slot u a
    → Entered k u hash position seconds l previous b
unfolding with_item
entry_steps k u hash position seconds l hs hp hw hb = record { previous = (cc); stands = (cc) }

pub length_entry : (k u hash : ℕ) (position : LogPosition) (seconds : ℕ) (l : List ℕ) → length (with_item k u hash position seconds l) ≡ length l
unfolding with_item
length_entry k u hash position seconds l = length_store _ _ _ _ ∙ length_overwrite _ _ _

-- a put is the item, then the header
pub put_is : (k hash position time : ℕ) (l : List ℕ)
    → put k hash position time l
    ≡ with_header (eqb (used_count l) 1) (used_count l + 1) (filled_after (filled_slots l) (slot_value l (slot_of k hash))) position time
    (with_item k (used_count l) hash (record { 0 = position }) (seconds_of (first_time l) time) l)
unfolding put header_after item_for with_header with_item
put_is k hash position time l = refl

module _ (filled previous : ℕ) where
  pub filled_more : previous ≡ 0 → filled + 1 ≡ filled_after filled previous
  unfolding filled_after pick
  filled_more e = rw (eq-eqb previous 0 e)

  pub filled_still : (previous ≡ 0 → ⊥) → filled ≡ filled_after filled previous
  unfolding filled_after pick
  filled_still e = rw (ne_eqb previous 0 e, add-zero)

module _ (u seconds : ℕ) where
  pub seconds_first : u ≡ 1 → 0 ≡ seconds_after u seconds
  unfolding seconds_after pick
  seconds_first e = rw (eq-eqb u 1 e)

  pub seconds_later : (u ≡ 1 → ⊥) → seconds ≡ seconds_after u seconds
  unfolding seconds_after pick
  seconds_later e = rw (ne_eqb u 1 e)

-- ---- the header

-- the steps of `write_header`
module _ {fresh : Bool} (used filled position time : ℕ) (l : List ℕ) {a b c d : List ℕ} (ea : a ≡ store 4 32 filled l) (eb : b ≡ store 4 36 used a)
    (ec : c ≡ store 8 8 time b) (ed : d ≡ store 8 24 position c) where
  pub header_first : {e f : List ℕ} → fresh ≡ true → e ≡ store 8 0 time d → f ≡ store 8 16 position e → f ≡ with_header fresh used filled position time l
  unfolding with_header pick
  header_first h ee ef = rw (h, ef, ee, ed, ec, eb, ea)

  pub header_later : fresh ≡ false → d ≡ with_header fresh used filled position time l
  unfolding with_header pick
  header_later h = rw (h, ed, ec, eb, ea)

module _ (used filled position time : ℕ) (l : List ℕ) where
  last : List ℕ
  last = store 8 24 position (store 8 8 time (store 4 36 used (store 4 32 filled l)))

  length_header : (fresh : Bool) → length (with_header fresh used filled position time l) ≡ length l
  unfolding with_header pick
  length_header true = simp length_overwrite
  length_header false = simp length_overwrite

  -- its fields are within the first 40 bytes
  pub header_after_is : (fresh : Bool) (w at : ℕ) → 40 ≤ at → field big w at (with_header fresh used filled position time l) ≡ field big w at l
  unfolding with_header last pick
  header_after_is fresh w at h = go fresh
    where
      low : field big w at last ≡ field big w at l
      low =
          kept_after 8 24 _ _ w at (omega arith) ∙ kept_after 8 8 _ _ w at (omega arith)
          ∙ kept_after 4 36 _ _ w at (omega arith) ∙ kept_after 4 32 _ _ w at (omega arith)

      go : (b : Bool) → field big w at (with_header b used filled position time l) ≡ field big w at l
      go true = kept_after 8 16 _ _ w at (omega arith) ∙ kept_after 8 0 _ _ w at (omega arith) ∙ low
      go false = low

  module _ (long : 40 ≤ length l) where
    header_used : (fresh : Bool) → used < 4294967296 → field big 4 36 (with_header fresh used filled position time l) ≡ used
    unfolding with_header last pick
    header_used fresh small = go fresh
      where
        low : field big 4 36 last ≡ used
        low = kept_after 8 24 _ _ 4 36 (omega arith) ∙ kept_after 8 8 _ _ 4 36 (omega arith) ∙ stored 4 36 used _ (simp length_overwrite long) (omega arith)

        go : (b : Bool) → field big 4 36 (with_header b used filled position time l) ≡ used
        go true = kept_after 8 16 _ _ 4 36 (omega arith) ∙ kept_after 8 0 _ _ 4 36 (omega arith) ∙ low
        go false = low

    header_filled : (fresh : Bool) → filled < 4294967296 → field big 4 32 (with_header fresh used filled position time l) ≡ filled
    unfolding with_header last pick
    header_filled fresh small = go fresh
      where
        low : field big 4 32 last ≡ filled
        low =
            kept_after 8 24 _ _ 4 32 (omega arith) ∙ kept_after 8 8 _ _ 4 32 (omega arith)
            ∙ kept_before 4 36 _ _ 4 32 (omega arith) ∙ stored 4 32 filled l (omega arith) small

        go : (b : Bool) → field big 4 32 (with_header b used filled position time l) ≡ filled
        go true = kept_after 8 16 _ _ 4 32 (omega arith) ∙ kept_after 8 0 _ _ 4 32 (omega arith) ∙ low
        go false = low

    header_first_time : (fresh : Bool) → time < 18446744073709551616 → field big 8 0 (with_header fresh used filled position time l) ≡ pick fresh time (field big 8 0 l)
    unfolding with_header pick
    header_first_time true small = kept_before 8 16 _ _ 8 0 (omega arith) ∙ stored 8 0 time _ (simp length_overwrite (omega arith)) (omega arith)
    header_first_time false small =
        kept_before 8 24 _ _ 8 0 (omega arith) ∙ kept_before 8 8 _ _ 8 0 (omega arith)
        ∙ kept_before 4 36 _ _ 8 0 (omega arith) ∙ kept_before 4 32 _ _ 8 0 (omega arith)

    header_last_time : (fresh : Bool) → time < 18446744073709551616 → field big 8 8 (with_header fresh used filled position time l) ≡ time
    unfolding with_header last pick
    header_last_time fresh small = go fresh
      where
        low : field big 8 8 last ≡ time
        low = kept_before 8 24 _ _ 8 8 (omega arith) ∙ stored 8 8 time _ (simp length_overwrite (omega arith)) (omega arith)

        go : (b : Bool) → field big 8 8 (with_header b used filled position time l) ≡ time
        go true = kept_before 8 16 _ _ 8 8 (omega arith) ∙ kept_after 8 0 _ _ 8 8 (omega arith) ∙ low
        go false = low

    header_first_position : (fresh : Bool) → position < 18446744073709551616
        → field big 8 16 (with_header fresh used filled position time l) ≡ pick fresh position (field big 8 16 l)
    unfolding with_header pick
    header_first_position true small = stored 8 16 position _ (simp length_overwrite (omega arith)) (omega arith)
    header_first_position false small =
        kept_before 8 24 _ _ 8 16 (omega arith) ∙ kept_after 8 8 _ _ 8 16 (omega arith)
        ∙ kept_before 4 36 _ _ 8 16 (omega arith) ∙ kept_before 4 32 _ _ 8 16 (omega arith)

    header_last_position : (fresh : Bool) → position < 18446744073709551616 → field big 8 24 (with_header fresh used filled position time l) ≡ position
    unfolding with_header last pick
    header_last_position fresh small = go fresh
      where
        low : field big 8 24 last ≡ position
        low = stored 8 24 position _ (simp length_overwrite (omega arith)) (omega arith)

        go : (b : Bool) → field big 8 24 (with_header b used filled position time l) ≡ position
        go true = kept_after 8 16 _ _ 8 24 (omega arith) ∙ kept_after 8 0 _ _ 8 24 (omega arith) ∙ low
        go false = low

-- ---- an item

length_item : (e : Item) → length (item_bytes e) ≡ 20
unfolding item_bytes
length_item e = length_layout (number 4 e.hash ∷ number 8 e.position.0 ∷ number 4 e.seconds ∷ number 4 e.previous ∷ [])

-- its numbers fit their fields
pub record Narrow (e : Item) : Type 0 where
  pub hash : e.hash < 4294967296
  pub position : e.position.0 < 18446744073709551616
  pub seconds : e.seconds < 4294967296
  pub previous : e.previous < 4294967296

item_fields : (e : Item) → Narrow e
    → (field big 4 0 (item_bytes e) ≡ e.hash) × (field big 8 4 (item_bytes e) ≡ e.position.0)
    × (field big 4 12 (item_bytes e) ≡ e.seconds) × (field big 4 16 (item_bytes e) ≡ e.previous)
unfolding item_bytes layout piece_bytes
item_fields e s =
    (simp (peel, mod-eq_of_lt s.hash), simp (peel, mod-eq_of_lt s.position), simp (peel, mod-eq_of_lt s.seconds), simp (peel, mod-eq_of_lt s.previous))

-- ---- a put

module _ (k n hash position time : ℕ) (l : List ℕ) (r : Room k n l 1) where
  item : Item
  item = item_for k hash (record { 0 = position }) time l

  body : List ℕ
  body = overwrite l (item_at k (used_count l)) (item_bytes item)

  slotted : List ℕ
  slotted = with_item k (used_count l) hash (record { 0 = position }) (seconds_of (first_time l) time) l

  abbrev after : List ℕ
  after = put k hash position time l

  within : slot_of k hash < k
  within = slot_within k hash r.some

  fits : item_at k (used_count l) + 20 ≤ length l
  fits = let a = r.long in let b = r.count in omega arith

  length_slotted : length slotted ≡ length l
  unfolding slotted
  length_slotted = length_entry _ _ _ _ _ l

  long : 40 ≤ length slotted
  long = rw length_slotted (let a = fits in omega arith)

  more : ℕ
  more = filled_after (filled_slots l) (slot_value l (slot_of k hash))

  headed : after ≡ with_header (eqb (used_count l) 1) (used_count l + 1) more position time slotted
  unfolding slotted more
  headed = put_is k hash position time l

  pub length_put : length after ≡ length l
  length_put = rw (headed, length_header) length_slotted

  -- a field before the slots, and one behind them
  of_header : (w at : ℕ) → at + w ≤ 40 → field big w at slotted ≡ field big w at l
  unfolding slotted with_item body item item_for
  of_header w at h =
      kept_before 4 (slot_at (slot_of k hash)) _ _ w at (omega arith) ∙ field_before big w at l (item_at k (used_count l)) (item_bytes item) (omega arith)

  of_slotted : (w at : ℕ) → 40 ≤ at → field big w at after ≡ field big w at slotted
  of_slotted w at h = rw headed (header_after_is _ _ _ _ _ _ w at h)

  of_body : (w at : ℕ) → 40 + 4 * k ≤ at → field big w at after ≡ field big w at body
  unfolding slotted with_item body item item_for
  of_body w at h = of_slotted w at (omega arith) ∙ kept_after 4 (slot_at (slot_of k hash)) _ _ w at (let a = within in omega arith)

  pub used_put : used_count after ≡ suc (used_count l)
  used_put = rw (headed, header_used (used_count l + 1) more position time slotted long (eqb (used_count l) 1) (let a = r.count in let b = r.few in omega arith)) (omega arith)

  pub filled_put : filled_slots after ≡ filled_after (filled_slots l) (slot_value l (slot_of k hash))
  unfolding more filled_after pick
  filled_put = rw headed (header_filled _ more position time slotted long _ (go (eqb (slot_value l (slot_of k hash)) 0)))
    where
      go : (b : Bool) → filled_slots l + pick b 1 0 < 4294967296
      go true = let a = r.fill in let b = r.count in let c = r.few in omega arith
      go false = let a = r.fill in let b = r.count in let c = r.few in omega arith

  module _ (small : time < 18446744073709551616) where
    pub first_time_put : first_time after ≡ pick (eqb (used_count l) 1) time (first_time l)
    first_time_put = rw headed (header_first_time _ more position time slotted long _ small ∙ ap (pick (eqb (used_count l) 1) time) (of_header 8 0 (omega arith)))

    pub last_time_put : last_time after ≡ time
    last_time_put = rw headed (header_last_time _ more position time slotted long _ small)

    pub seconds_put : seconds_of (first_time after) time ≡ seconds_after (used_count l) (seconds_of (first_time l) time)
    unfolding seconds_of seconds_after pick
    seconds_put = rw first_time_put (go (eqb (used_count l) 1))
      where
        none : (b : Bool) → pick b 0 (min ((time - time) / 1000) 2147483647) ≡ 0
        none true = refl
        none false = omega arith

        go : (b : Bool) → seconds_of (pick b time (first_time l)) time ≡ pick b 0 (seconds_of (first_time l) time)
        go true = none (eqb time 0)
        go false = refl

  module _ (small : position < 18446744073709551616) where
    pub first_position_put : first_position after ≡ pick (eqb (used_count l) 1) position (first_position l)
    first_position_put = rw headed (header_first_position _ more position time slotted long _ small ∙ ap (pick (eqb (used_count l) 1) position) (of_header 8 16 (omega arith)))

    pub last_position_put : last_position after ≡ position
    last_position_put = rw headed (header_last_position _ more position time slotted long _ small)

  pub slot_same : slot_value after (slot_of k hash) ≡ used_count l
  unfolding slotted with_item body item item_for
  slot_same =
      of_slotted 4 (slot_at (slot_of k hash)) (omega arith)
      ∙ stored 4 (slot_at (slot_of k hash)) (used_count l) _ (rw length_overwrite (let a = within in let b = fits in omega arith)) (let a = r.count in let b = r.few in omega arith)

  pub slot_other : (t : ℕ) → t < k → (t ≡ slot_of k hash → ⊥) → slot_value after t ≡ slot_value l t
  unfolding slotted with_item body item item_for
  slot_other t h ne =
      of_slotted 4 (slot_at t) (omega arith) ∙ go (dec_lt t (slot_of k hash))
      ∙ field_before big 4 (slot_at t) l (item_at k (used_count l)) (item_bytes item) (omega arith)
    where
      go : Dec (t < slot_of k hash) → field big 4 (slot_at t) (store 4 (slot_at (slot_of k hash)) (used_count l) body) ≡ field big 4 (slot_at t) body
      go (yes y) = kept_before 4 (slot_at (slot_of k hash)) _ _ 4 (slot_at t) (omega arith)
      go (no z) = kept_after 4 (slot_at (slot_of k hash)) _ _ 4 (slot_at t) (omega arith)

  -- a number of an older item
  older : (w at : ℕ) → 40 + 4 * k ≤ at → at + w ≤ item_at k (used_count l) → field big w at after ≡ field big w at l
  unfolding body
  older w at h g = of_body w at h ∙ field_before big w at l (item_at k (used_count l)) (item_bytes item) g

  pub item_other : (v : ℕ) → v < used_count l → item_of k after v ≡ item_of k l v
  unfolding item_of
  item_other v h =
      rw (
        older 4 (item_at k v) (omega arith) (omega arith),
        older 8 (item_at k v + 4) (omega arith) (omega arith),
        older 4 (item_at k v + 12) (omega arith) (omega arith),
        older 4 (item_at k v + 16) (omega arith) (omega arith),
      )

  -- a number of the new one
  newer : (w i : ℕ) → i + w ≤ 20 → field big w (item_at k (used_count l) + i) after ≡ field big w i (item_bytes item)
  unfolding body
  newer w i h =
      of_body w (item_at k (used_count l) + i) (omega arith)
      ∙ field_inside big w i l (item_at k (used_count l)) (item_bytes item) (rw length_item h) (rw length_item fits)

  pub item_same : Narrow (item_for k hash (record { 0 = position }) time l) → item_of k after (used_count l) ≡ item_for k hash (record { 0 = position }) time l
  unfolding item_of item
  item_same s =
      let f = item_fields item s in
      rw (
        (rw add-zero at (newer 4 0 (omega arith))) ∙ f.0,
        newer 8 4 (omega arith) ∙ f.1,
        newer 4 12 (omega arith) ∙ f.2,
        newer 4 16 (omega arith) ∙ f.3,
      )
