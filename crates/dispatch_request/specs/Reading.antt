-- What reading a request asks for and promises. Assumes nothing.
use Rattle.std.specs.Prelude.{ℕ, ◌<◌, ◌≤◌, ◌≡◌, List, leb, length, take, Option, None, Some, Result, Ok, Err}
use Rattle.codec.specs.Choice.{pick}
use Rattle.units.specs.declared.Answer.{Answer}
use Rattle.directory.specs.Directory.{queues as listed_queues}
use Rattle.record.specs.declared.Entry.{Entry}
use Rattle.record.specs.declared.Entry.TheVariants.{Blank, Message}
use Rattle.dispatch_request.specs.declared.DispatchRequest.{DispatchRequest}
use Rattle.dispatch_request.specs.Request.{Stands, stop, blank, request}

-- the directory has passed its check
pub record Listed (directory : List ℕ) : Type 0 where
  pub some : 0 < length (listed_queues directory)
  pub few : length (listed_queues directory) ≤ 16

-- what is told of what stands at a position: nothing that can be read, a blank with its length, or a record's request, none where it has more items
-- than the list has places
abbrev pub Next : Type 0
Next = Result (Entry (Option DispatchRequest)) Answer

-- of what stands in the log, with n places for hashes
unfoldable pub next_of : ℕ → Stands → Next
next_of n (stop a) = Err a
next_of n (blank k) = Ok (Blank k)
next_of n (request q hs) = pick (leb (length hs) n) (Ok (Message (Some q))) (Ok (Message None))

-- the list's front has the hashes, if there are any and it has the places
unfoldable pub InFront : Stands → List ℕ → Type 0
InFront (stop a) list = Unit {0}
InFront (blank k) list = Unit {0}
InFront (request q hs) list = length hs ≤ length list → take (length hs) list ≡ hs

pub record Reads (x : Stands) (r : Next) (list : List ℕ) : Type 0 where
  pub next : r ≡ next_of (length list) x
  pub listed : InFront x list
