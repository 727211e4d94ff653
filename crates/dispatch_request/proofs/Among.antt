-- Keys compared, found among a record's items and counted. Assumes nothing.
use Prim.Native.Nat.{ℕ, ◌+◌, ◌-◌, ◌≤◌, ◌<◌}
use mathlib.Core.Path.{◌≡◌, refl, sym, ◌∙◌}
use mathlib.Core.Bool.{Bool, true, false, not, ◌||◌, and-false}
use mathlib.Core.List.{List, [], ◌∷◌, ◌++◌}
use native.Mathlib.Omega.{arith}
use lib.ListN.{length, take, drop, length-append, length-map}
use borrow.Author.Tests.{not-true, not-false}
use Rattle.std.specs.Cmp.Lexicographic.{pointwise}
use Rattle.std.specs.List.{list_any}
use lib.Dec.{eqb}
use Rattle.codec.specs.Bytes.{same}
use Rattle.codec.specs.Choice.{pick}
use Rattle.codec.proofs.Equal.{same_lengths}
use Rattle.codec.proofs.Parts.{part_whole}
use Rattle.units.specs.declared.Place.{Place}
use Rattle.properties.specs.declared.Found.{Found}
use Rattle.properties.specs.declared.Found.TheVariants.{Absent, One, Many}
use Rattle.properties.specs.declared.Scanned.{Scanned}
use Rattle.properties.specs.Claims.{KeyLeads}
use Rattle.properties.specs.Values.{number_found, filled_only}
use Rattle.properties.specs.Parts.{parts, filled, bytes_at}
use Rattle.properties.specs.Finder.{unique_key_name, scanned, found_bytes}
use Rattle.properties.specs.Keys.{keys_from, key_places}
use Rattle.properties.proofs.Places.{keys_bytes, finder_filled}
use Rattle.dispatch_request.specs.Request.{transaction, makes_items, is_found, unique_key, keys_at, keys_in, item_keys, record_keys, is_among, has_item}

-- ---- two keys

pub same_bytes : (a b : List ℕ) → pointwise eqb a b ≡ same a b
unfolding same
same_bytes [] [] = refl
same_bytes [] (y ∷ b) = refl
same_bytes (x ∷ a) [] = refl
same_bytes (x ∷ a) (y ∷ b) = rw (same_bytes a b)

-- ---- the parts of KEYS

pub any_among : (key : List ℕ) (ks : List (List ℕ)) → list_any (λ k. pointwise eqb k key) ks ≡ is_among key ks
unfolding is_among
any_among key [] = refl
any_among key (k ∷ ks) = rw (same_bytes k key, any_among key ks)

-- ---- the unique key

-- one that is found has a byte
abbrev HasByte : Found → List ℕ → Type 0
HasByte f p = 0 < number_found f → filled (found_bytes f p) ≡ true

unique_byte : (found : Scanned) (p : List ℕ) → found ≡ scanned p → HasByte found.unique_key p
unfolding scanned
unique_byte found p e = rw e (finder_filled unique_key_name p)

unique_among : (f : Found) (p key : List ℕ) (ks : List (List ℕ)) → (length key ≡ 0 → ⊥) → is_among key (unique_key f p ++ ks) ≡ (same (found_bytes f p) key || is_among key ks)
unfolding unique_key is_found found_bytes is_among same pick
unique_among Absent p [] ks n = absurd (n refl)
unique_among Absent p (b ∷ key) ks n = refl
unique_among (One q) p key ks n = refl
unique_among (Many q) p key ks n = refl

filled_length : (l : List ℕ) → filled l ≡ true → 0 < length l
unfolding filled
filled_length [] e = let z : ◌≡◌ {A = ℕ} 0 1 = cc in absurd (omega arith)
filled_length (b ∷ l) e = omega arith

unique_none : (f : Found) (p : List ℕ) → HasByte f p → length (found_bytes f p) ≡ 0 → length (unique_key f p) ≡ 0
unfolding unique_key is_found number_found pick
unique_none Absent p h e = refl
unique_none (One q) p h e = absurd (omega (arith, filled_length _ (h (omega arith))))
unique_none (Many q) p h e = absurd (omega (arith, filled_length _ (h (omega arith))))

unique_one : (f : Found) (p : List ℕ) → (length (found_bytes f p) ≡ 0 → ⊥) → length (unique_key f p) ≡ 1
unfolding unique_key is_found found_bytes pick
unique_one Absent p n = absurd (n refl)
unique_one (One q) p n = refl
unique_one (Many q) p n = refl

-- ---- a key without bytes is no item's, for every item's key has a byte

unlike_empty : (l : List ℕ) → filled l ≡ true → same l [] ≡ false
unfolding filled same
unlike_empty [] e = sym e
unlike_empty (b ∷ l) e = refl

none_filled : (ps : List (List ℕ)) → is_among [] (filled_only ps) ≡ false
unfolding is_among filled_only filled same pick
none_filled [] = refl
none_filled ([] ∷ ps) = none_filled ps
none_filled ((b ∷ p) ∷ ps) = none_filled ps

none_part : (v : List ℕ) → is_among [] (keys_at (key_places v) v) ≡ false
unfolding keys_at
none_part v = rw (keys_bytes v) (none_filled (parts 32 v))

none_unique : (f : Found) (p : List ℕ) (ks : List (List ℕ)) → HasByte f p → is_among [] (unique_key f p ++ ks) ≡ is_among [] ks
unfolding unique_key is_found number_found is_among pick
none_unique Absent p ks h = refl
none_unique (One q) p ks h = rw (unlike_empty _ (h (omega arith)))
none_unique (Many q) p ks h = rw (unlike_empty _ (h (omega arith)))

none_item : (makes : Bool) (p : List ℕ) → is_among [] (record_keys makes p) ≡ false
unfolding record_keys item_keys keys_in is_among pick
none_item true p = none_unique _ p _ (unique_byte (scanned p) p refl) ∙ none_part (found_bytes (scanned p).keys p)
none_item false p = refl

-- ---- the items of a record

module _ (flag : ℕ) (p : List ℕ) {makes : Bool} (m : makes ≡ makes_items (transaction flag)) where
  pub none_counted : not makes ≡ true → 0 ≡ length (record_keys (makes_items (transaction flag)) p)
  unfolding record_keys pick
  none_counted e = rw (← m, not-true makes e)

  pub none_had : (record_topic topic key : List ℕ) → not makes ≡ true → false ≡ has_item flag record_topic p topic key
  unfolding has_item record_keys is_among pick
  none_had record_topic topic key e = rw (← m, not-true makes e) (sym (and-false (same record_topic topic)))

  module _ (e : not makes ≡ false) (found : Scanned) (f : found ≡ scanned p) {u v : List ℕ}
      (a : u ≡ found_bytes found.unique_key p) (b : v ≡ found_bytes found.keys p) where
    made : record_keys (makes_items (transaction flag)) p ≡ unique_key found.unique_key p ++ keys_at (key_places v) v
    unfolding record_keys item_keys keys_in pick
    made = rw (← m, not-false makes e, b, f)

    counted : {n : ℕ} → n ≡ length (key_places v) → length (unique_key found.unique_key p) + n ≡ length (record_keys (makes_items (transaction flag)) p)
    unfolding keys_at
    counted c = rw (made, length-append, length-map, c)

    pub others_counted : {n : ℕ} → n ≡ length (key_places v) → length u ≡ 0 → n ≡ length (record_keys (makes_items (transaction flag)) p)
    others_counted c h = omega (arith, counted c, unique_none found.unique_key p (unique_byte found p f) (rw a at h))

    pub all_counted : {n : ℕ} → n ≡ length (key_places v) → (length u ≡ 0 → ⊥) → n + 1 ≡ length (record_keys (makes_items (transaction flag)) p)
    all_counted c h = omega (arith, counted c, unique_one found.unique_key p (rw a at h))

    module _ (record_topic topic key : List ℕ) {s : Bool} (w : s ≡ same record_topic topic) (q : not s ≡ false) (h : length key ≡ 0 → ⊥) {r : Bool} (c : r ≡ same u key) where
      had : has_item flag record_topic p topic key ≡ (r || is_among key (keys_at (key_places v) v))
      unfolding has_item
      had = rw (made, ← w, not-false s q, c, a) (unique_among found.unique_key p key (keys_at (key_places v) v) h)

      pub unique_had : r ≡ true → true ≡ has_item flag record_topic p topic key
      unique_had d = rw (had, d)

      pub part_had : {y : Bool} → r ≡ false → y ≡ is_among key (keys_at (key_places v) v) → y ≡ has_item flag record_topic p topic key
      part_had d i = rw (had, d) i

module _ (flag : ℕ) (record_topic p topic : List ℕ) where
  pub other_topic : (key : List ℕ) {s : Bool} → s ≡ same record_topic topic → not s ≡ true → false ≡ has_item flag record_topic p topic key
  unfolding has_item
  other_topic key {s} w q = rw (← w, not-true s q)

  pub no_key : (key : List ℕ) → length key ≡ 0 → false ≡ has_item flag record_topic p topic key
  unfolding has_item
  no_key [] e = rw (none_item (makes_items (transaction flag)) p) (sym (and-false (same record_topic topic)))
  no_key (b ∷ key) e = absurd (omega arith)
