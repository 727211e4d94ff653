-- One step of dispatch: document 01, section "One dispatch step". What stands at the position becomes a request, and the request is filed. Assumes nothing.
use Rattle.std.specs.Prelude.{ℕ, ◌+◌, List, eqb}
use Rattle.codec.specs.Choice.{pick}
use Rattle.units.specs.declared.Answer.{Answer}
use Rattle.units.specs.Answers.{number_of}
use Rattle.consume_queue.specs.Queue.{entry_bytes}
use Rattle.consume_queue.specs.Entering.{entry_answer, entered_queues, entered_counts}
use Rattle.index_file.specs.Items.{items_answer, put_all}
use Rattle.machine.specs.Steps.{Outcome, moved, stopped}
use Rattle.dispatch_request.specs.declared.DispatchRequest.{DispatchRequest}
use Rattle.dispatch_request.specs.Request.{View, Stands, stop, blank, request, stands_at}
use Rattle.dispatch_step.specs.declared.Sizes.{Sizes}
use Rattle.dispatch_step.specs.declared.Progress.{Progress}

-- "directory, log start and sizes": "sizes are S, R, K, N and the log's length", of which the length is the log's own
pub record Fixed : Type 0 where
  pub sizes : Sizes
  pub directory : List ℕ

abbrev pub fixed_of : Sizes → List ℕ → Fixed
fixed_of sizes directory = record { sizes = sizes; directory = directory }

-- "Progress holds a log position and one entry count per queue"; "Compared are position, all 16 counts and every byte of queues and index"
pub record State : Type 0 where
  pub progress : Progress
  pub counts : List ℕ
  pub queues : List ℕ
  pub index : List ℕ

abbrev pub state_of : Progress → List ℕ → List ℕ → List ℕ → State
state_of progress counts queues index = record { progress = progress; counts = counts; queues = queues; index = index }

-- where a state stands in the log
abbrev pub position_of : State → ℕ
position_of s = s.progress.position.0

-- the progress n bytes on
abbrev pub on_by : ℕ → Progress → Progress
on_by n p = record { position = record { 0 = p.position.0 + n } }

-- a stop, if it is one, else what follows
unfoldable pub unless : Answer → Outcome State → Outcome State
unless a next = pick (eqb (number_of a) 0) next (stopped a)

-- "A step done at a record moves to p + total"; its entry and its items are written
unfoldable pub written : Sizes → DispatchRequest → List ℕ → State → State
written z q hs s =
    record {
      progress = on_by q.total s.progress;
      counts = entered_counts q.entry q.row s.counts;
      queues = entered_queues q.entry q.row z.queue_entries s.counts (entry_bytes s.progress.position q.total q.tag_code) s.queues;
      index = put_all z.index.slot_count (position_of s) q.store_time hs s.index;
    }

-- rule 6's stop, then rule 7's, each judged on the state before the record: nothing is written before every check has passed
unfoldable pub filed : Sizes → DispatchRequest → List ℕ → State → Outcome State
filed z q hs s =
    unless (entry_answer q.entry q.row q.queue_offset z.queue_entries s.counts)
    (unless (items_answer z.index.slot_count z.index.item_count s.index (position_of s) hs)
    (moved (written z q hs s)))

-- rule 3: "else move to p + r"
unfoldable pub moved_by : ℕ → State → State
moved_by n s = record { progress = on_by n s.progress; counts = s.counts; queues = s.queues; index = s.index }

-- "A step handles one record or one blank"
unfoldable pub step_as : Fixed → State → Stands → Outcome State
step_as f s (stop a) = stopped a
step_as f s (blank n) = moved (moved_by n s)
step_as f s (request q hs) = filed f.sizes q hs s

-- what stands at a state's position
abbrev pub stands_here : Fixed → View → State → Stands
stands_here f v s = stands_at f.directory f.sizes.geometry v s.progress.position

unfoldable pub step_of : Fixed → View → State → Outcome State
step_of f v s = step_as f s (stands_here f v s)
