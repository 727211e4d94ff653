-- The keys of a record's items, and their hashes. Assumes nothing.
use Prim.Native.Nat.{ℕ, ◌+◌, ◌*◌, ◌-◌, ◌≤◌, ◌<◌}
use mathlib.Core.Path.{◌≡◌, refl, sym, ◌∙◌}
use mathlib.Core.Bool.{Bool, true, false}
use mathlib.Core.List.{List, [], ◌∷◌, ◌++◌, map, map-append}
use native.Mathlib.Omega.{arith}
use lib.ListN.{length, take, drop, length-append, length-take, length-drop, length-map}
use Rattle.codec.specs.Bytes.{part}
use Rattle.codec.specs.Choice.{pick}
use Rattle.codec.specs.Lists.{All}
use Rattle.units.specs.declared.Place.{Place}
use Rattle.java_hash.specs.Hash.{topic_hash, key_hash, index_hash}
use Rattle.java_hash.proofs.HashLaws.{key_hash_is, index_hash_small}
use Rattle.properties.specs.declared.Found.{Found}
use Rattle.properties.specs.declared.Found.TheVariants.{Absent, One, Many}
use Rattle.properties.specs.declared.Scanned.{Scanned}
use Rattle.properties.specs.Values.{number_found}
use Rattle.properties.specs.Parts.{filled, bytes_at}
use Rattle.properties.specs.Finder.{unique_key_name, finder, scanned, found_bytes}
use Rattle.properties.specs.Keys.{key_places}
use Rattle.properties.proofs.Places.{keys_few, finder_filled}
use Rattle.dispatch_request.specs.Request.{is_found, unique_key, keys_at, keys_in, item_keys, record_keys, item_hashes, record_hashes}
use Rattle.dispatch_request.specs.Inner.{hashes, filled_one}
use Rattle.dispatch_request.specs.Claims.{ItemHashesSmall}

-- ---- the keys

length_part_le : (p : Place) (l : List ℕ) → length (bytes_at p l) ≤ length l
unfolding bytes_at part
length_part_le p l = rw (length-take, length-drop) (omega arith)

length_value_le : (f : Found) (l : List ℕ) → length (found_bytes f l) ≤ length l
unfolding found_bytes
length_value_le Absent l = omega arith
length_value_le (One p) l = length_part_le p l
length_value_le (Many p) l = length_part_le p l

length_keys_at : (ps : List Place) (v : List ℕ) → length (keys_at ps v) ≡ length ps
unfolding keys_at
length_keys_at ps v = length-map ps (λ p. bytes_at p v)

unique_few : (f : Found) (p : List ℕ) → length (unique_key f p) ≤ 1
unfolding unique_key pick
unique_few f p = go (is_found f)
  where
    go : (b : Bool) → length (pick b (found_bytes f p ∷ []) []) ≤ 1
    go true = omega arith
    go false = omega arith

-- a unique key that is found has a byte
filled_value : (f : Found) (p : List ℕ) → (0 < number_found f → filled (found_bytes f p) ≡ true) → filled_one (found_bytes f p) ≡ unique_key f p
unfolding filled_one unique_key is_found found_bytes filled number_found pick
filled_value Absent p h = refl
filled_value (One q) p h = rw (h (omega arith))
filled_value (Many q) p h = rw (h (omega arith))

unique_filled : (p : List ℕ) → filled_one (found_bytes (scanned p).unique_key p) ≡ unique_key (scanned p).unique_key p
unfolding scanned
unique_filled p = filled_value (finder unique_key_name p) p (finder_filled unique_key_name p)

-- a record's items, as found
keys_all : (found : Scanned) (p : List ℕ) → found ≡ scanned p
    → item_keys p ≡ filled_one (found_bytes found.unique_key p) ++ keys_at (key_places (found_bytes found.keys p)) (found_bytes found.keys p)
unfolding item_keys keys_in
keys_all found p e = rw (e, unique_filled p)

items_few : (p : List ℕ) → 2 * length (item_keys p) ≤ length p + 3
unfolding item_keys keys_in
items_few p =
    let v = found_bytes (scanned p).keys p in
    let a = unique_few (scanned p).unique_key p in
    let b = keys_few v in
    let c = length_value_le (scanned p).keys p in
    rw (length-append, length_keys_at) (omega arith)

-- ---- the hashes

pub length_hashes : (prefix : ℕ) (ks : List (List ℕ)) → length (hashes prefix ks) ≡ length ks
unfolding hashes
length_hashes prefix ks = length-map ks (key_hash prefix)

hashes_append : (prefix : ℕ) (a b : List (List ℕ)) → hashes prefix (a ++ b) ≡ hashes prefix a ++ hashes prefix b
unfolding hashes
hashes_append prefix a b = map-append (key_hash prefix) a b

item_hashes_is : (topic p : List ℕ) → hashes (topic_hash topic) (item_keys p) ≡ item_hashes topic p
unfolding item_hashes hashes
item_hashes_is topic p = go (item_keys p)
  where
    go : (ks : List (List ℕ)) → map (key_hash (topic_hash topic)) ks ≡ map (index_hash topic) ks
    go [] = refl
    go (x ∷ ks) = rw (key_hash_is topic x, go ks)

pub item_hashes_small : ItemHashesSmall
unfolding item_hashes
item_hashes_small topic p = go (item_keys p)
  where
    go : (ks : List (List ℕ)) → All (λ (h : ℕ). h < 2147483648) (map (index_hash topic) ks)
    go [] = tt
    go (x ∷ ks) = (index_hash_small topic x, go ks)

-- ---- those of a record, if it makes any

pub record_small : (makes : Bool) (topic p : List ℕ) → All (λ (h : ℕ). h < 2147483648) (record_hashes makes topic p)
unfolding record_hashes pick
record_small true topic p = item_hashes_small topic p
record_small false topic p = tt

pub record_keys_few : (makes : Bool) (p : List ℕ) → 2 * length (record_keys makes p) ≤ length p + 3
unfolding record_keys pick
record_keys_few true p = items_few p
record_keys_few false p = omega arith

pub record_few : (makes : Bool) (topic p : List ℕ) → 2 * length (record_hashes makes topic p) ≤ length p + 3
unfolding record_hashes item_hashes pick
record_few true topic p = rw (length-map (item_keys p) (index_hash topic)) (items_few p)
record_few false topic p = omega arith

pub hashes_none : (makes : Bool) (topic p : List ℕ) → makes ≡ false → record_hashes makes topic p ≡ []
unfolding record_hashes pick
hashes_none makes topic p e = rw e

pub hashes_all : (makes : Bool) (topic p : List ℕ) (found : Scanned) {prefix : ℕ} {unique keys : List ℕ} → makes ≡ true → prefix ≡ topic_hash topic → found ≡ scanned p
    → unique ≡ found_bytes found.unique_key p → keys ≡ found_bytes found.keys p
    → record_hashes makes topic p ≡ hashes prefix (filled_one unique) ++ hashes prefix (keys_at (key_places keys) keys)
unfolding record_hashes pick
hashes_all makes topic p found {prefix} {unique} {keys} m t e u k =
    rw m (sym (item_hashes_is topic p) ∙ rw (keys_all found p e, t, u, k) (hashes_append (topic_hash topic) _ _))
