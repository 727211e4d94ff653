-- What a step that is done read, and what it changed. Assumes nothing.
use Prim.Native.Nat.{ℕ}
use mathlib.Core.Path.{◌≡◌, refl, sym}
use mathlib.Core.List.{List}
use lib.Dec.{eqb}
use borrow.Author.Tests.{eqb-true}
use Rattle.codec.proofs.Choices.{held}
use Rattle.units.specs.declared.Answer.{Answer}
use Rattle.units.specs.declared.Answer.TheVariants.{Done}
use Rattle.units.specs.Answers.{number_of}
use Rattle.units.proofs.Checked.{done_only}
use Rattle.consume_queue.specs.Entering.{entry_answer}
use Rattle.index_file.specs.Items.{items_answer}
use Rattle.machine.specs.Steps.{Outcome, moved, stopped}
use Rattle.machine.proofs.Steps.{never, moved_inj}
use Rattle.dispatch_request.specs.declared.DispatchRequest.{DispatchRequest}
use Rattle.dispatch_request.specs.Request.{View, Stands, stop, blank, request}
use Rattle.dispatch_request.proofs.Standing.{request_found, blank_found}
use Rattle.dispatch_step.specs.declared.Sizes.{Sizes}
use Rattle.dispatch_step.specs.Step.{Fixed, State, position_of, unless, written, filed, step_as, stands_here, step_of}
use Rattle.dispatch_step.specs.Inner.{Moves, over_blank, over_record}

-- a choice that moved was no stop
pub went : (a : Answer) (next : Outcome State) (t : State) → unless a next ≡ moved t → (a ≡ Done) × (next ≡ moved t)
unfolding unless
went a next t e =
    let h = held (eqb (number_of a) 0) next (stopped a) (moved t) never e in
    (done_only a (eqb-true (number_of a) 0 h.holds), h.rest)

-- a request that was filed passed every check, and its entry and items were written
pub record Files (z : Sizes) (q : DispatchRequest) (hs : List ℕ) (s t : State) : Type 0 where
  pub entered : entry_answer q.entry q.row q.queue_offset z.queue_entries s.counts ≡ Done
  pub checked : items_answer z.index.slot_count z.index.item_count s.index (position_of s) hs ≡ Done
  pub left : t ≡ written z q hs s

pub filed_moved : (z : Sizes) (q : DispatchRequest) (hs : List ℕ) (s t : State) → filed z q hs s ≡ moved t → Files z q hs s t
unfolding filed
filed_moved z q hs s t e =
    let first = went (entry_answer q.entry q.row q.queue_offset z.queue_entries s.counts) _ t e in
    let second = went (items_answer z.index.slot_count z.index.item_count s.index (position_of s) hs) _ t first.1 in
    record { entered = first.0; checked = second.0; left = sym (moved_inj second.1) }

-- a step at a request files it
pub step_filed : (f : Fixed) (v : View) (s : State) (q : DispatchRequest) (hs : List ℕ) → stands_here f v s ≡ request q hs → step_of f v s ≡ filed f.sizes q hs s
unfolding step_of step_as
step_filed f v s q hs e = rw e

pub moves : (f : Fixed) (v : View) (s t : State) → step_of f v s ≡ moved t → Moves f v s t
unfolding step_of step_as
moves f v s t e = go (stands_here f v s) refl e
  where
    go : (x : Stands) → stands_here f v s ≡ x → step_as f s x ≡ moved t → Moves f v s t
    go (stop a) w h = never h
    go (blank n) w h =
        let b = blank_found f.directory f.sizes.geometry v s.progress.position n w in
        over_blank n w b.0 b.1 (sym (moved_inj h))
    go (request q hs) w h =
        let k = request_found f.directory f.sizes.geometry v s.progress.position q hs w in
        let g = filed_moved f.sizes q hs s t h in
        over_record q hs w
        (record { least = k.least; most = k.most; below = k.below; time = k.time; entered = g.entered; checked = g.checked; left = g.left })
