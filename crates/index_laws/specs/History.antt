-- An index built from an empty one by puts, listed newest first, and the items that it then holds. Assumes nothing.
use Rattle.std.specs.Prelude.{ℕ, zero, suc, ◌+◌, ◌*◌, ◌<◌, ◌≤◌, ◌≡◌, Bool, List, [], ◌∷◌, map, ◌⊎◌, eqb, length, replicate}
use Rattle.codec.specs.Choice.{pick}
use Rattle.codec.specs.Lists.{All}
use Rattle.java_hash.specs.Hash.{slot_of}
use Rattle.index_file.specs.declared.Item.{Item}
use Rattle.index_file.specs.Index.{store, first_time, last_time, first_position, last_position, filled_slots, used_count, slot_value, item_of, seconds_of, put}
use Rattle.index_query.specs.Walk.{hit}

-- "Empty means every byte 0, or all but a used count of 1"
unfoldable pub zeros : ℕ → ℕ → List ℕ
zeros k n = replicate (40 + 4 * k + 20 * n) 0

unfoldable pub zeros_and_one : ℕ → ℕ → List ℕ
zeros_and_one k n = store 4 36 1 (zeros k n)

abbrev pub Empty : ℕ → ℕ → List ℕ → Type 0
Empty k n index = (index ≡ zeros k n) ⊎ (index ≡ zeros_and_one k n)

-- an index without items: its length, its header, its slots
pub record Fresh (k n : ℕ) (index : List ℕ) : Type 0 where
  pub long : length index ≡ 40 + 4 * k + 20 * n
  pub count : used_count index ≡ 1
  pub filled : filled_slots index ≡ 0
  pub first_time_is : first_time index ≡ 0
  pub last_time_is : last_time index ≡ 0
  pub first_position_is : first_position index ≡ 0
  pub last_position_is : last_position index ≡ 0
  pub slots : (s : ℕ) → s < k → slot_value index s ≡ 0

-- a put: what it files, where the record stands, its store time
pub record Put : Type 0 where
  pub hash : ℕ
  pub position : ℕ
  pub time : ℕ

-- the index after the puts
unfoldable pub build : ℕ → List ℕ → List Put → List ℕ
build k index [] = index
build k index (p ∷ ps) = put k p.hash p.position p.time (build k index ps)

-- hashes, positions and times within their limits
abbrev pub Fit : List Put → Type 0
Fit [] = Unit {0}
Fit (p ∷ ps) = (p.hash < 2147483648) × (p.position ≤ 1099511627776) × (p.time ≤ 281474976710655) × Fit ps

-- the header's first time: the oldest put's store time; 0 if there is none
unfoldable pub oldest : List Put → ℕ
oldest [] = 0
oldest (p ∷ ps) = pick (eqb (length ps) 0) p.time (oldest ps)

-- whether an item is in slot s
abbrev pub in_slot : ℕ → ℕ → Item → Bool
in_slot k s e = eqb (slot_of k e.hash) s

-- the number of the newest item in slot s, the oldest item's number being 1; 0 if there is none
unfoldable pub newest : ℕ → ℕ → List Item → ℕ
newest k s [] = 0
newest k s (e ∷ h) = pick (in_slot k s e) (suc (length h)) (newest k s h)

-- the items that the puts make
unfoldable pub items : ℕ → List Put → List Item
items k [] = []
items k (p ∷ ps) =
    record {
      hash = p.hash;
      position = record { 0 = p.position };
      seconds = seconds_of (oldest ps) p.time;
      previous = newest k (slot_of k p.hash) (items k ps);
    }
    ∷ items k ps

-- "recorded seconds never falling"
abbrev pub SecondsRise : List Item → Type 0
SecondsRise [] = Unit {0}
SecondsRise (e ∷ es) = All (λ (o : Item). o.seconds ≤ e.seconds) es × SecondsRise es

-- store times that never fall
abbrev pub TimesRise : List Put → Type 0
TimesRise [] = Unit {0}
TimesRise (p ∷ ps) = All (λ (o : Put). o.time ≤ p.time) ps × TimesRise ps

-- the elements that pass a test
unfoldable pub keep : {A : Type 0} → (A → Bool) → List A → List A
keep p [] = []
keep p (x ∷ xs) = pick (p x) (x ∷ keep p xs) (keep p xs)

-- "items with the key's hash and a recorded time in the range, newest first": their positions
unfoldable pub matches : ℕ → List Put → ℕ → ℕ → ℕ → List ℕ
matches k ps hash begin end =
    map (λ (e : Item). e.position.0) (keep (hit (record { hash = hash; begin = begin; end = end; base = oldest ps })) (items k ps))

-- the numbers that the links from a number give, at most so many
unfoldable pub linked : (ℕ → Item) → ℕ → ℕ → List ℕ
linked look zero num = []
linked look (suc fuel) num = pick (eqb num 0) [] (num ∷ linked look fuel (look num).previous)

-- the chain of slot s
unfoldable pub chain : ℕ → List ℕ → ℕ → List ℕ
chain k index s = linked (item_of k index) (used_count index) (slot_value index s)

-- n, n - 1, .., 1
unfoldable pub down_from : ℕ → List ℕ
down_from zero = []
down_from (suc n) = suc n ∷ down_from n

-- the history with one record's items, of these hashes
unfoldable pub item_puts : ℕ → ℕ → List ℕ → List Put → List Put
item_puts position time [] ps = ps
item_puts position time (h ∷ hs) ps = item_puts position time hs (record { hash = h; position = position; time = time } ∷ ps)
