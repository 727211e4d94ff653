-- What callers of the request may rely on, as statements. Assumes nothing.
use Rattle.std.specs.Prelude.{ℕ, ◌+◌, ◌≤◌, ◌<◌, ◌≡◌, List, length}
use Rattle.codec.specs.Lists.{All}
use Rattle.units.specs.declared.LogPosition.{LogPosition}
use Rattle.directory.specs.Directory.{queues as listed_queues}
use Rattle.commit_log.specs.declared.Geometry.{Geometry}
use Rattle.dispatch_request.specs.declared.DispatchRequest.{DispatchRequest}
use Rattle.dispatch_request.specs.Request.{item_hashes, View, blank, request, stands_at}

-- an index hash is never negative as a signed 32-bit number
abbrev pub ItemHashesSmall : Type 0
ItemHashesSmall = (topic properties : List ℕ) → All (λ (h : ℕ). h < 2147483648) (item_hashes topic properties)

abbrev pub StandsSmall : Type 0
StandsSmall =
    (directory : List ℕ) (g : Geometry) (v : View) (p : LogPosition) (q : DispatchRequest) (hs : List ℕ) → stands_at directory g v p ≡ request q hs
    → All (λ (h : ℕ). h < 2147483648) hs

-- "properties 0 to 32,767": every key has a byte, and between two keys of KEYS stands another
abbrev pub HashesFew : Type 0
HashesFew =
    (directory : List ℕ) (g : Geometry) (v : View) (p : LogPosition) (q : DispatchRequest) (hs : List ℕ) → stands_at directory g v p ≡ request q hs
    → length hs ≤ 16385

abbrev pub ItemsCounted : Type 0
ItemsCounted =
    (directory : List ℕ) (g : Geometry) (v : View) (p : LogPosition) (q : DispatchRequest) (hs : List ℕ) → stands_at directory g v p ≡ request q hs
    → q.items ≡ length hs

-- the record of a request that stands at p
pub record Stood (v : View) (p : LogPosition) (q : DispatchRequest) : Type 0 where
  pub before : p.0 ≡ v.end.0 → ⊥
  pub least : 92 ≤ q.total
  pub most : q.total ≤ 4194304
  pub below : p.0 + q.total ≤ v.end.0
  pub time : q.store_time ≤ 281474976710655

abbrev pub RequestFound : Type 0
RequestFound = (directory : List ℕ) (g : Geometry) (v : View) (p : LogPosition) (q : DispatchRequest) (hs : List ℕ) → stands_at directory g v p ≡ request q hs → Stood v p q

-- its row is one of the directory's, or 16
abbrev pub RequestListed : Type 0
RequestListed =
    (directory : List ℕ) (g : Geometry) (v : View) (p : LogPosition) (q : DispatchRequest) (hs : List ℕ) → length (listed_queues directory) ≤ 16
    → stands_at directory g v p ≡ request q hs → (q.row ≤ 16) × (q.row < 16 → q.row < length (listed_queues directory))

-- a blank has 8 bytes or more, and ends at or below the readable end
abbrev pub BlankFound : Type 0
BlankFound =
    (directory : List ℕ) (g : Geometry) (v : View) (p : LogPosition) (n : ℕ) → stands_at directory g v p ≡ blank n
    → (8 ≤ n) × (p.0 + n ≤ v.end.0)
