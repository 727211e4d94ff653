-- Dispatch: the door of document 01, section "Answer numbers", and dispatch as a machine. Assumes nothing.
use Rattle.std.specs.Prelude.{ℕ, Bool, true, false, not, ◌&&◌, ◌||◌, Option, None, Some, List, length}
use Rattle.codec.specs.Choice.{pick}
use Rattle.units.specs.declared.Answer.TheVariants.{BadSizes, BadPosition, BadDirectory, BadHeader}
use Rattle.units.specs.declared.LogPosition.{LogPosition}
use Rattle.commit_log.specs.Log.{geometry_ok, outside}
use Rattle.consume_queue.specs.Queue.{entries_ok, queue_rows, counts_ok}
use Rattle.index_file.specs.Index.{sizes_ok, header_sound}
use Rattle.machine.specs.Steps.{Ran}
use Rattle.machine.specs.Calls.{Door, accepted, refused, Machine, Call}
use Rattle.dispatch_request.specs.Request.{View, view_of}
use Rattle.dispatch_step.specs.declared.Sizes.{Sizes}
use Rattle.dispatch_step.specs.declared.Progress.{Progress}
use Rattle.dispatch_step.specs.Step.{Fixed, State, fixed_of, state_of, step_of}
use Rattle.dispatch.specs.declared.Dispatched.{Dispatched}

-- ---- the door

-- 1: "S, B, R, K or N breaks its limit, or log or index has another length"
unfoldable pub sizes_fit : Sizes → ℕ → ℕ → Bool
sizes_fit z log index =
    geometry_ok z.geometry log && entries_ok z.queue_entries && sizes_ok z.index.slot_count z.index.item_count index

-- 3: "directory bad or not 1 to 16 rows, or queue buffer not rows × R × 20"
unfoldable pub is_refused : Option ℕ → Bool
is_refused None = true
is_refused (Some n) = false

-- 2: "position, readable end or entry count is bad"
unfoldable pub progress_bad : Sizes → ℕ → Progress → LogPosition → List ℕ → Bool
progress_bad z log progress end counts = outside z.geometry log progress.position end || not (counts_ok 16 z.queue_entries counts)

-- "dispatch 1, 3, 2, 4"
unfoldable pub door_of : Fixed → View → State → Door
door_of f v s =
    pick (not (sizes_fit f.sizes (length v.log) (length s.index))) (refused BadSizes)
    (pick (is_refused (queue_rows f.directory f.sizes.queue_entries (length s.queues))) (refused BadDirectory)
    (pick (progress_bad f.sizes (length v.log) s.progress v.end s.counts) (refused BadPosition)
    (pick (not (header_sound f.sizes.index.item_count s.index)) (refused BadHeader) accepted)))

-- ---- the machine

-- "the log's length .. stay the same, let the readable end never fall, and let log bytes below it not change"
abbrev pub Extended : Fixed → View → View → Type 0
Extended f v w = Rattle.commit_log.specs.Log.Extends f.sizes.geometry v.log w.log v.end w.end

abbrev pub dispatcher : Machine
dispatcher = record { Fixed = Fixed; View = View; State = State; door = door_of; step = step_of; Extends = Extended }

-- a call with these arguments, and what it returns and leaves
abbrev pub call_of : Sizes → List ℕ → List ℕ → LogPosition → ℕ → Call dispatcher
call_of sizes directory log end budget = record { fixed = fixed_of sizes directory; view = view_of log end; budget = budget }

abbrev pub ran_of : Dispatched → List ℕ → List ℕ → List ℕ → Ran State
ran_of r counts queues index = record { answer = r.answer; steps = r.steps; state = state_of r.progress counts queues index }
