-- What a record makes by itself: document 01, rule 5 of "One dispatch step", and "Properties and hashes". Assumes nothing.
use Rattle.std.specs.Prelude.{ℕ, ◌*◌, ◌/◌, ◌%◌, Bool, true, false, not, ◌&&◌, ◌||◌, Option, None, Some, Ok, Err, List, [], ◌∷◌, ◌++◌, map, eqb, length}
use Rattle.codec.specs.Bytes.{same}
use Rattle.codec.specs.Choice.{pick}
use Rattle.units.specs.declared.Answer.{Answer}
use Rattle.units.specs.declared.Answer.TheVariants.{Done}
use Rattle.units.specs.declared.LogPosition.{LogPosition}
use Rattle.units.specs.declared.Place.{Place}
use Rattle.java_hash.specs.Hash.{tag_code, index_hash}
use Rattle.properties.specs.declared.Found.{Found}
use Rattle.properties.specs.declared.Found.TheVariants.{Absent, One, Many}
use Rattle.properties.specs.declared.Scanned.{Scanned}
use Rattle.properties.specs.Parts.{bytes_at}
use Rattle.properties.specs.Finder.{tags_name, finder, scanned, found_bytes}
use Rattle.properties.specs.Keys.{key_places}
use Rattle.directory.specs.Directory.{row_of}
use Rattle.record.specs.Record.{LogEntry}
use Rattle.record.specs.declared.Record.{Record}
use Rattle.record.specs.declared.Entry.TheVariants.{Blank, Message}
use Rattle.commit_log.specs.declared.Geometry.{Geometry}
use Rattle.commit_log.specs.Log.{entry_within, place_bytes}
use Rattle.dispatch_request.specs.declared.DispatchRequest.{DispatchRequest}

-- ---- rule 5

-- "Transaction type, system flag bits 4 and 8: 0 none, 4 prepared, 8 commit, 12 rollback"
unfoldable pub transaction : ℕ → ℕ
transaction flag = 4 * (flag / 4 % 4)

-- "None and commit make a queue entry"
unfoldable pub makes_entry : ℕ → Bool
makes_entry type = eqb type 0 || eqb type 8

-- "all but rollback make index items"
unfoldable pub makes_items : ℕ → Bool
makes_items type = not (eqb type 12)

-- ---- the row

-- the row of a queue, by its number; 16 where it is not listed
unfoldable pub row_number : Option ℕ → ℕ
row_number None = 16
row_number (Some i) = i

-- ---- the tag code

-- "Tag code: .. 0 without TAGS"
unfoldable pub tag_of : Found → List ℕ → ℕ
tag_of Absent properties = 0
tag_of (One p) properties = tag_code (bytes_at p properties)
tag_of (Many p) properties = tag_code (bytes_at p properties)

-- ---- the items

-- there is a value
unfoldable pub is_found : Found → Bool
is_found Absent = false
is_found (One p) = true
is_found (Many p) = true

-- "first the unique key"
unfoldable pub unique_key : Found → List ℕ → List (List ℕ)
unique_key found properties = pick (is_found found) (found_bytes found properties ∷ []) []

-- "then each non-empty part of KEYS between spaces, in order, repeats kept"
unfoldable pub keys_at : List Place → List ℕ → List (List ℕ)
keys_at places value = map (λ p. bytes_at p value) places

unfoldable pub keys_in : Scanned → List ℕ → List (List ℕ)
keys_in found properties =
    unique_key found.unique_key properties
    ++ keys_at (key_places (found_bytes found.keys properties)) (found_bytes found.keys properties)

unfoldable pub item_keys : List ℕ → List (List ℕ)
item_keys properties = keys_in (scanned properties) properties

-- the keys of the items that a record makes, if it makes any
unfoldable pub record_keys : Bool → List ℕ → List (List ℕ)
record_keys makes properties = pick makes (item_keys properties) []

-- one of them is this key
unfoldable pub is_among : List ℕ → List (List ℕ) → Bool
is_among key [] = false
is_among key (k ∷ ks) = same k key || is_among key ks

-- a topic and key are among the items of a record with this system flag, topic and properties
unfoldable pub has_item : ℕ → List ℕ → List ℕ → List ℕ → List ℕ → Bool
has_item flag record_topic properties topic key =
    same record_topic topic && is_among key (record_keys (makes_items (transaction flag)) properties)

-- "Index hash: of topic, `#`, key"
unfoldable pub item_hashes : List ℕ → List ℕ → List ℕ
item_hashes topic properties = map (index_hash topic) (item_keys properties)

-- the index hashes of the items that a record makes, if it makes any
unfoldable pub record_hashes : Bool → List ℕ → List ℕ → List ℕ
record_hashes makes topic properties = pick makes (item_hashes topic properties) []

-- ---- the request

abbrev pub type_of : Record → ℕ
type_of m = transaction m.fields.system_flag

abbrev pub hashes_of : Record → List ℕ → List ℕ → List ℕ
hashes_of m topic properties = record_hashes (makes_items (type_of m)) topic properties

unfoldable pub request_of : List ℕ → Record → List ℕ → List ℕ → DispatchRequest
request_of directory m topic properties =
    record {
      total = m.total;
      entry = makes_entry (type_of m);
      row = row_number (row_of topic m.fields.queue_id directory);
      queue_offset = m.fields.queue_offset;
      tag_code = tag_of (finder tags_name properties) properties;
      store_time = m.fields.store_time;
      items = length (hashes_of m topic properties);
    }

-- ---- what stands in the log

-- the log, and its readable end
pub record View : Type 0 where
  pub log : List ℕ
  pub end : LogPosition

abbrev pub view_of : List ℕ → LogPosition → View
view_of log end = record { log = log; end = end }

-- "A step handles one record or one blank": a stop, a blank of so many bytes, or a record as its request and the hashes of its items
pub data Stands : Type 0 where
  stop : Answer → Stands
  blank : ℕ → Stands
  request : DispatchRequest → List ℕ → Stands

-- what a record makes, with the bytes of its topic and properties
unfoldable pub made_of : List ℕ → Record → List ℕ → List ℕ → Stands
made_of directory m topic properties = request (request_of directory m topic properties) (hashes_of m topic properties)

-- rules 2 to 4 have read an entry at p
unfoldable pub stands_as : List ℕ → Geometry → View → LogPosition → LogEntry → Stands
stands_as directory g v p (Err a) = stop a
stands_as directory g v p (Ok (Blank n)) = blank n
stands_as directory g v p (Ok (Message m)) = made_of directory m (place_bytes v.log g p m.topic) (place_bytes v.log g p m.properties)

-- rule 1: "Position = E: 0"
unfoldable pub stands_at : List ℕ → Geometry → View → LogPosition → Stands
stands_at directory g v p = pick (eqb p.0 v.end.0) (stop Done) (stands_as directory g v p (entry_within v.log g p v.end))
