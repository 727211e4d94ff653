-- What filing asks for, and how its answer and the bytes that it leaves are the outcome's. Assumes nothing.
use Rattle.std.specs.Prelude.{ℕ, ◌+◌, ◌*◌, ◌<◌, ◌≤◌, ◌≡◌, Bool, true, false, List, length, Result, Ok, Err}
use Rattle.units.specs.declared.Answer.{Answer}
use Rattle.consume_queue.specs.Queue.{entries_ok, counts_ok}
use Rattle.index_file.specs.Room.{IndexSized}
use Rattle.index_file.specs.Items.{any_bad_slot}
use Rattle.machine.specs.Steps.{Outcome, moved, stopped}
use Rattle.dispatch_request.specs.declared.DispatchRequest.{DispatchRequest}
use Rattle.dispatch_step.specs.declared.Sizes.{Sizes}
use Rattle.dispatch_step.specs.declared.Progress.{Progress}
use Rattle.dispatch_step.specs.Step.{State, state_of, position_of, filed}

-- a request and the hashes of its items, on a state that the door let through; the slots are good if that is said
pub record Fileable (z : Sizes) (q : DispatchRequest) (hs : List ℕ) (judged : Bool) (s : State) : Type 0 where
  pub entries : entries_ok z.queue_entries ≡ true
  pub counted : counts_ok 16 z.queue_entries s.counts ≡ true
  pub sized : IndexSized z.index.slot_count z.index.item_count s.index
  pub most : q.total ≤ 4194304
  pub low : position_of s ≤ 1099511627776
  pub row : q.row ≤ 16
  pub region : q.row < 16 → (q.row * z.queue_entries + z.queue_entries) * 20 ≤ length s.queues
  pub few : length hs ≤ 16385
  pub good : judged ≡ true → any_bad_slot z.index.slot_count s.index hs ≡ false

-- the function's answer to an outcome
unfoldable pub answer_to : Outcome State → Result Progress Answer
answer_to (moved t) = Ok t.progress
answer_to (stopped a) = Err a

-- "Whole steps": what an outcome leaves of s
unfoldable pub left_of : Outcome State → State → State
left_of (moved t) s = t
left_of (stopped a) s = s

-- the progress after an answer
unfoldable pub progress_after : Result Progress Answer → Progress → Progress
progress_after (Ok q) p = q
progress_after (Err a) p = p

-- the answer r and the bytes left are the outcome's
pub record Did (o : Outcome State) (s : State) (r : Result Progress Answer) (counts queues index : List ℕ) : Type 0 where
  pub ended : r ≡ answer_to o
  pub left : state_of (progress_after r s.progress) counts queues index ≡ left_of o s

-- a request and the hashes of its items, filed on s: the answer r and the bytes left
abbrev pub Files : Sizes → DispatchRequest → List ℕ → State → Result Progress Answer → List ℕ → List ℕ → List ℕ → Type 0
Files z q hs s r counts queues index = Did (filed z q hs s) s r counts queues index
