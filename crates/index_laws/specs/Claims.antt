-- What holds of an index that puts have built from empty, and of a query on it, as statements. Assumes nothing.
use Rattle.std.specs.Prelude.{ℕ, suc, ◌<◌, ◌≤◌, ◌≡◌, true, List, map, length, take}
use Rattle.codec.specs.Lists.{All}
use Rattle.java_hash.specs.Hash.{index_hash}
use Rattle.index_file.specs.Index.{sizes_ok, header_sound, used_count, item_of, put}
use Rattle.index_file.specs.Items.{put_all}
use Rattle.index_file.specs.Room.{Room}
use Rattle.index_query.specs.Query.{wanted_of, query_ok, queried}
use Rattle.index_query.specs.Claims.{Finds}
use Rattle.index_laws.specs.History.{zeros, zeros_and_one, Empty, Fresh, Put, build, Fit, in_slot, items, SecondsRise, TimesRise, keep, matches, chain, down_from, item_puts}

-- an index that puts within their limits, of which there is room, have built from empty
pub record Built (k n : ℕ) (index : List ℕ) (ps : List Put) : Type 0 where
  pub sizes : sizes_ok k n (length index) ≡ true
  pub empty : Empty k n index
  pub room : length ps < n
  pub fit : Fit ps

-- demand 2: "On an index built from empty, recorded seconds never falling, a query returns exactly the newest items with the key's hash and a
-- recorded time in the range, newest first, up to the number asked"
abbrev pub QueryExact : Type 0
QueryExact =
    (k n : ℕ) (index : List ℕ) (ps : List Put) → Built k n index ps → SecondsRise (items k ps)
    → (topic key : List ℕ) (first last wanted : ℕ) (out : List ℕ)
    → query_ok topic key first last (wanted_of wanted) (length out) ≡ true
    → Finds (take (wanted_of wanted) (matches k ps (index_hash topic key) first last)) out (queried k n (build k index ps) topic key first last wanted out)

-- store times that never fall make recorded seconds that never fall
abbrev pub RisingTimes : Type 0
RisingTimes = (k : ℕ) (ps : List Put) → TimesRise ps → SecondsRise (items k ps)

-- ---- the index that puts build

-- the items of the history are those that stand in the file, by number from the newest down
abbrev pub ItemsStored : Type 0
ItemsStored =
    (k n : ℕ) (index : List ℕ) (ps : List Put) → Built k n index ps → map (item_of k (build k index ps)) (down_from (length ps)) ≡ items k ps

-- each item hangs from exactly one slot's chain, that of its hash, once, in falling order: a slot's chain is the numbers of its items
abbrev pub ChainsPartition : Type 0
ChainsPartition =
    (k n : ℕ) (index : List ℕ) (ps : List Put) → Built k n index ps → (s : ℕ) → s < k
    → chain k (build k index ps) s ≡ keep (λ u. in_slot k s (item_of k (build k index ps) u)) (down_from (length ps))

-- every put is an item, and the number of the last is the used count less one
abbrev pub BuiltCount : Type 0
BuiltCount = (k n : ℕ) (index : List ℕ) (ps : List Put) → Built k n index ps → used_count (build k index ps) ≡ suc (length ps)

-- a header stays sound
abbrev pub PutSound : Type 0
PutSound =
    (k n hash position time : ℕ) (index : List ℕ) → Room k n index 1 → position ≤ 1099511627776 → time ≤ 281474976710655 → header_sound n index ≡ true
    → header_sound n (put k hash position time index) ≡ true

abbrev pub PutAllSound : Type 0
PutAllSound =
    (k n position time : ℕ) (hs index : List ℕ) → Room k n index (length hs) → position ≤ 1099511627776 → time ≤ 281474976710655 → header_sound n index ≡ true
    → header_sound n (put_all k position time hs index) ≡ true

-- "Empty means every byte 0, or all but a used count of 1": neither has an item
abbrev pub FreshEmpty : Type 0
FreshEmpty = (k n : ℕ) → Fresh k n (zeros k n)

abbrev pub FreshOne : Type 0
FreshOne = (k n : ℕ) → Fresh k n (zeros_and_one k n)

-- a record's items, put into an index that was built, give one that is built
abbrev pub PutBuilt : Type 0
PutBuilt = (k position time : ℕ) (hs index : List ℕ) (ps : List Put) → put_all k position time hs (build k index ps) ≡ build k index (item_puts position time hs ps)

abbrev pub FiledBuilt : Type 0
FiledBuilt =
    (k n : ℕ) (index : List ℕ) (ps : List Put) (position time : ℕ) (hs : List ℕ) → Built k n index ps → Room k n (build k index ps) (length hs)
    → All (λ (h : ℕ). h < 2147483648) hs → position ≤ 1099511627776 → time ≤ 281474976710655 → Built k n index (item_puts position time hs ps)
