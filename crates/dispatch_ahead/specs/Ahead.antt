-- Records read ahead as requests: what is kept of them, and what an advance promises. Assumes nothing.
use Rattle.std.specs.Prelude.{ℕ, zero, suc, ◌+◌, ◌<◌, ◌≤◌, ◌≡◌, List, [], eqb, length, get_or}
use Rattle.codec.specs.Bytes.{part}
use Rattle.codec.specs.Choice.{pick}
use Rattle.units.specs.declared.LogPosition.{LogPosition}
use Rattle.machine.specs.Steps.{moved, stopped, iterate}
use Rattle.dispatch_request.specs.declared.DispatchRequest.{DispatchRequest}
use Rattle.dispatch_request.specs.declared.TheConstants.DispatchRequest.{NONE}
use Rattle.dispatch_request.specs.Request.{View, view_of, Stands, stop, blank, request, stands_at}
use Rattle.dispatch_step.specs.declared.Progress.{Progress}
use Rattle.dispatch_step.specs.Step.{Fixed, State, fixed_of, state_of, on_by, step_of}
use Rattle.dispatch_ahead.specs.declared.Call.{Call}
use Rattle.dispatch_ahead.specs.declared.Batch.{Batch}
use Rattle.dispatch_ahead.specs.declared.Behind.{Behind}
use Rattle.dispatch_ahead.specs.declared.Behind.TheVariants.{Unread, Stop, Blank, Long}
use Rattle.dispatch_ahead.specs.declared.Ended.{Ended}
use Rattle.dispatch_ahead.specs.declared.Ended.TheVariants.{Going, Stopped}
use Rattle.dispatch_ahead.specs.declared.Ended.TheVariants as ended
use Rattle.dispatch_ahead.specs.declared.Advanced.{Advanced}

-- ---- a call

abbrev pub fixed_in : Call → Fixed
fixed_in c = fixed_of c.sizes c.directory.now

abbrev pub view_in : Call → View
view_in c = view_of c.log.now c.readable_end

-- ---- records one behind the other

abbrev pub stands_in : Fixed → View → LogPosition → Stands
stands_in f v p = stands_at f.directory f.sizes.geometry v p

unfoldable pub stands_total : Stands → ℕ
stands_total (stop a) = 0
stands_total (blank n) = 0
stands_total (request q hs) = q.total

unfoldable pub stands_hashes : Stands → List ℕ
stands_hashes (stop a) = []
stands_hashes (blank n) = []
stands_hashes (request q hs) = hs

-- the position behind the first i of them
unfoldable pub behind : Fixed → View → LogPosition → ℕ → LogPosition
behind f v p zero = p
behind f v p (suc i) = record { 0 = (behind f v p i).0 + stands_total (stands_in f v (behind f v p i)) }

-- and the number of their items
unfoldable pub items_before : Fixed → View → LogPosition → ℕ → ℕ
items_before f v p zero = 0
items_before f v p (suc i) = items_before f v p i + length (stands_hashes (stands_in f v (behind f v p i)))

-- record i is kept as a request, its hashes behind those of the records before it
pub record Kept (f : Fixed) (v : View) (p : LogPosition) (i : ℕ) (q : DispatchRequest) (list : List ℕ) : Type 0 where
  pub next : stands_in f v (behind f v p i) ≡ request q (stands_hashes (stands_in f v (behind f v p i)))
  pub number : q.items ≡ length (stands_hashes (stands_in f v (behind f v p i)))
  pub within : items_before f v p (suc i) ≤ length list
  pub listed : part q.items (items_before f v p i) list ≡ stands_hashes (stands_in f v (behind f v p i))

-- what stands behind the records of a batch, of a list of n places of which `items` are taken
unfoldable pub BehindIs : Stands → ℕ → ℕ → Behind → Type 0
BehindIs x items n Unread = Unit {0}
BehindIs x items n (Stop a) = x ≡ stop a
BehindIs x items n (Blank k) = x ≡ blank k
BehindIs x items n Long = n < items + length (stands_hashes x)

-- places for 1 to 16 requests, and for hashes
pub record RoomAhead (requests : List DispatchRequest) (list : List ℕ) : Type 0 where
  pub one : 1 ≤ length requests
  pub few : length requests ≤ 16
  pub some : 0 < length list
  pub bound : length list ≤ 16385

-- what was read ahead from p on
pub record Batched (f : Fixed) (v : View) (p : LogPosition) (most : ℕ) (r : Batch) (requests : List DispatchRequest) (list : List ℕ) : Type 0 where
  pub kept : (i : ℕ) → i < r.records → Kept f v p i (get_or requests i NONE) list
  pub counted : r.items ≡ items_before f v p r.records
  pub fits : r.items ≤ length list
  pub few : r.records ≤ length requests
  pub under : r.records ≤ most
  pub behind_is : BehindIs (stands_in f v (behind f v p r.records)) r.items (length list) r.behind
  -- more was asked for, and something was read that is not kept
  pub left_off : (r.behind ≡ Unread → ⊥) → r.records < most
  pub some : r.behind ≡ Unread → 0 < most → 0 < r.records

-- behind so many records, all filed, what stands there is passed: a blank is a step more
unfoldable pub pass_by : Progress → ℕ → Behind → Advanced
pass_by p k Unread = record { progress = p; steps = k; ended = Going }
pass_by p k (Stop a) = record { progress = p; steps = k; ended = Stopped a }
pass_by p k (Blank n) = record { progress = on_by n p; steps = k + 1; ended = Going }
pass_by p k Long = pick (eqb k 0) (record { progress = p; steps = k; ended = ended.Long }) (record { progress = p; steps = k; ended = Going })

-- ---- an advance

-- why it ends, of at most `most` steps, with a list of n places
unfoldable pub Ends : Fixed → View → ℕ → ℕ → ℕ → State → Ended → Type 0
Ends f v most n steps t Going = 0 < most → 0 < steps
Ends f v most n steps t (Stopped a) = (steps < most) × (step_of f v t ≡ stopped a)
Ends f v most n steps t ended.Long = n < length (stands_hashes (stands_in f v t.progress.position))

-- so many steps of the rules lead from s to t, and it ends as it says
pub record Advances (f : Fixed) (v : View) (most n : ℕ) (s : State) (r : Advanced) (t : State) : Type 0 where
  pub walked : iterate (step_of f v) r.steps s ≡ moved t
  pub within : r.steps ≤ most
  pub ends : Ends f v most n r.steps t r.ended

-- the same by what an advance returns and the bytes that it leaves
abbrev pub AdvancesTo : Fixed → View → ℕ → ℕ → State → Advanced → List ℕ → List ℕ → List ℕ → Type 0
AdvancesTo f v most n s r counts queues index = Advances f v most n s r (state_of r.progress counts queues index)
