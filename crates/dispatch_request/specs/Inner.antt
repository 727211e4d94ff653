-- What the functions that read a request ask and promise. Assumes nothing.
use Rattle.std.specs.Prelude.{ℕ, ◌+◌, ◌<◌, ◌≤◌, ◌≡◌, List, [], ◌∷◌, ◌++◌, map, length, take}
use Rattle.codec.specs.Choice.{pick}
use Rattle.java_hash.specs.Hash.{key_hash}
use Rattle.properties.specs.Parts.{filled}
use Rattle.record.specs.Record.{short_hosts, lengths_in, topic_in, properties_in}

-- the hashes of keys, from the hash of topic and `#`
unfoldable pub hashes : ℕ → List (List ℕ) → List ℕ
hashes prefix keys = map (key_hash prefix) keys

-- a key that has a byte, else none
unfoldable pub filled_one : List ℕ → List (List ℕ)
filled_one key = pick (filled key) (key ∷ []) []

-- hashes gathered behind the first n of a list: r are then in it, or it has not the places. What stands behind them is left open: the list is
-- scratch, no rule speaks of it
pub record Gathered (hs : List ℕ) (n : ℕ) (list : List ℕ) (r : ℕ) (after : List ℕ) : Type 0 where
  pub long : length after ≡ length list
  pub all : r ≤ length list → (r ≡ n + length hs) × (take r after ≡ take n list ++ hs)
  pub more : length list < r → length list < n + length hs

-- topic and properties of a record, in its own bytes
abbrev pub topic_of : List ℕ → List ℕ
topic_of own = topic_in (lengths_in short_hosts own) own

abbrev pub properties_of : List ℕ → List ℕ
properties_of own = properties_in (lengths_in short_hosts own) own
