-- What the door leaves for a step, and what a step that is done read and changed. Assumes nothing.
use Rattle.std.specs.Prelude.{ℕ, ◌+◌, ◌≤◌, ◌≡◌, List}
use Rattle.units.specs.declared.Answer.TheVariants.{Done}
use Rattle.consume_queue.specs.Entering.{entry_answer}
use Rattle.index_file.specs.Items.{items_answer}
use Rattle.dispatch_request.specs.declared.DispatchRequest.{DispatchRequest}
use Rattle.dispatch_request.specs.Request.{View, blank, request}
use Rattle.dispatch_step.specs.Step.{Fixed, State, position_of, stands_here, written, moved_by}

-- the record of a request was filed
pub record Passed (f : Fixed) (v : View) (s : State) (q : DispatchRequest) (hs : List ℕ) (t : State) : Type 0 where
  pub least : 92 ≤ q.total
  pub most : q.total ≤ 4194304
  pub below : position_of s + q.total ≤ v.end.0
  pub time : q.store_time ≤ 281474976710655
  pub entered : entry_answer q.entry q.row q.queue_offset f.sizes.queue_entries s.counts ≡ Done
  pub checked : items_answer f.sizes.index.slot_count f.sizes.index.item_count s.index (position_of s) hs ≡ Done
  pub left : t ≡ written f.sizes q hs s

-- what a step that is done read, and what it changed
pub data Moves (f : Fixed) (v : View) (s t : State) : Type 0 where
  over_blank : (n : ℕ) → stands_here f v s ≡ blank n → 8 ≤ n → position_of s + n ≤ v.end.0 → t ≡ moved_by n s → Moves f v s t
  over_record : (q : DispatchRequest) (hs : List ℕ) → stands_here f v s ≡ request q hs → Passed f v s q hs t → Moves f v s t
