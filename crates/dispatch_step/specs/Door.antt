-- What the door leaves for a step. Assumes nothing.
use Rattle.std.specs.Prelude.{ℕ, ◌≡◌, true, Some, length}
use Rattle.commit_log.specs.Door.{GeometryFits, Within}
use Rattle.consume_queue.specs.Queue.{entries_ok, queue_rows, counts_ok}
use Rattle.index_file.specs.Room.{IndexSized}
use Rattle.dispatch_request.specs.Request.{View}
use Rattle.dispatch_step.specs.Step.{Fixed, State}

-- what checks 1, 3, 2 and 4 leave for filing
pub record Ready (f : Fixed) (s : State) : Type 0 where
  pub rows : ℕ
  pub entries : entries_ok f.sizes.queue_entries ≡ true
  pub listed : queue_rows f.directory f.sizes.queue_entries (length s.queues) ≡ Some rows
  pub counted : counts_ok 16 f.sizes.queue_entries s.counts ≡ true
  pub sized : IndexSized f.sizes.index.slot_count f.sizes.index.item_count s.index

-- what they leave for a step
pub record Admitted (f : Fixed) (v : View) (s : State) : Type 0 where
  pub geometry : GeometryFits f.sizes.geometry (length v.log)
  pub within : Within f.sizes.geometry (length v.log) s.progress.position v.end
  pub ready : Ready f s
