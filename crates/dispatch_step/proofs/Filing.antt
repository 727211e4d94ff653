-- The ways through filing, and what its answer tells of the outcome. Assumes nothing.
use Prim.Native.Nat.{ℕ, ◌+◌}
use mathlib.Core.Path.{◌≡◌, sym, ap}
use mathlib.Core.List.{List}
use native.Mathlib.Omega.{arith}
use borrow.Author.Tests.{ne_eqb}
use Rattle.std.proofs.Common.{Result, Ok, Err}
use Rattle.codec.specs.Choice.{pick}
use Rattle.units.specs.declared.Answer.{Answer}
use Rattle.units.specs.Answers.{number_of}
use Rattle.units.specs.Checked.{checked}
use Rattle.units.proofs.Checked.{checked_passed, checked_refused}
use Rattle.consume_queue.specs.Queue.{entry_bytes}
use Rattle.consume_queue.specs.Entering.{entry_answer, entered_queues, entered_counts}
use Rattle.index_file.specs.Items.{items_answer, put_all}
use Rattle.machine.specs.Steps.{Outcome, moved, stopped}
use Rattle.dispatch_request.specs.declared.DispatchRequest.{DispatchRequest}
use Rattle.dispatch_step.specs.declared.Sizes.{Sizes}
use Rattle.dispatch_step.specs.declared.Progress.{Progress}
use Rattle.dispatch_step.specs.Step.{State, state_of, position_of, unless, written, filed}
use Rattle.dispatch_step.specs.Filing.{answer_to, left_of, progress_after, Did}

-- ---- the ways through

did_stopped : (o : Outcome State) (s : State) (a : Answer) → o ≡ stopped a → Did o s (Err a) s.counts s.queues s.index
unfolding answer_to left_of progress_after
did_stopped o s a e = record { ended = rw e; left = rw e }

did_moved : (o : Outcome State) (s t : State) → o ≡ moved t → Did o s (Ok t.progress) t.counts t.queues t.index
unfolding answer_to left_of progress_after
did_moved o s t e = record { ended = rw e; left = rw e }

-- an answer that was checked stops, or lets what follows be
unless_refused : {b : Answer} (a : Answer) (next : Outcome State) → Err b ≡ checked a → unless a next ≡ stopped b
unfolding unless pick
unless_refused a next e = let r = checked_refused a e in rw (ne_eqb (number_of a) 0 r.1, r.0)

unless_passed : {u : Unit {0}} (a : Answer) (next : Outcome State) → Ok u ≡ checked a → unless a next ≡ next
unfolding unless pick
unless_passed a next e = rw (checked_passed a e)

module _ (z : Sizes) (q : DispatchRequest) (hs : List ℕ) (s : State) where
  abbrev entry : Answer
  entry = entry_answer q.entry q.row q.queue_offset z.queue_entries s.counts

  abbrev items : Answer
  items = items_answer z.index.slot_count z.index.item_count s.index (position_of s) hs

  pub file_halted : {a : Answer} → Err a ≡ checked entry → Did (filed z q hs s) s (Err a) s.counts s.queues s.index
  unfolding filed
  file_halted {a} e = did_stopped (filed z q hs s) s a (unless_refused entry _ e)

  module _ {u : Unit {0}} (passed : Ok u ≡ checked entry) where
    pub file_broken : {a : Answer} → Err a ≡ checked items → Did (filed z q hs s) s (Err a) s.counts s.queues s.index
    unfolding filed
    file_broken {a} e = did_stopped (filed z q hs s) s a (rw (unless_passed entry _ passed) (unless_refused items _ e))

    pub file_done : {v : Unit {0}} → Ok v ≡ checked items → {counts queues index : List ℕ} {at : ℕ} → counts ≡ entered_counts q.entry q.row s.counts
        → queues ≡ entered_queues q.entry q.row z.queue_entries s.counts (entry_bytes s.progress.position q.total q.tag_code) s.queues
        → index ≡ put_all z.index.slot_count (position_of s) q.store_time hs s.index → at ≡ position_of s + q.total
        → Did (filed z q hs s) s (Ok (record { position = record { 0 = at } })) counts queues index
    unfolding filed written
    file_done sound {counts} {queues} {index} {at} grown entered put on =
        did_moved (filed z q hs s) s (state_of (record { position = record { 0 = at } }) counts queues index)
        (rw (unless_passed entry _ passed, unless_passed items _ sound, ← grown, ← entered, ← put, ← on))

-- ---- what the answer tells

pub did_move : (o : Outcome State) {s : State} {r : Result Progress Answer} {counts queues index : List ℕ} {p : Progress} → Did o s r counts queues index → r ≡ Ok p → o ≡ moved (state_of p counts queues index)
unfolding answer_to left_of progress_after
did_move (moved t) d e = ap moved (sym (rw e at d.left))
did_move (stopped a) d e = let z : ◌≡◌ {A = ℕ} 0 1 = cc (d.ended, e) in absurd (omega arith)

-- a request that was stopped left everything
pub record Stays (o : Outcome State) (s t : State) (a : Answer) : Type 0 where
  pub rule : o ≡ stopped a
  pub still : t ≡ s

pub did_stop : (o : Outcome State) {s : State} {r : Result Progress Answer} {counts queues index : List ℕ} {a : Answer} → Did o s r counts queues index → r ≡ Err a
    → Stays o s (state_of s.progress counts queues index) a
unfolding answer_to left_of progress_after
did_stop (moved t) d e = let z : ◌≡◌ {A = ℕ} 0 1 = cc (d.ended, e) in absurd (omega arith)
did_stop (stopped b) {a} d e = record { rule = cc (d.ended, e); still = rw e at d.left }
