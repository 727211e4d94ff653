-- The door: what a call that it accepts has shown, and that the call is accepted again over a view that extends the first. Assumes nothing.
use Prim.Native.Nat.{ℕ}
use mathlib.Core.Path.{◌≡◌}
use mathlib.Core.Bool.{true, false, not, ◌&&◌, ◌||◌}
use native.Mathlib.Omega.{arith}
use lib.ListN.{length}
use borrow.Author.Tests.{not-false}
use Rattle.codec.specs.Choice.{pick}
use Rattle.codec.proofs.Choices.{both, neither, passed}
use Rattle.units.specs.declared.Answer.{Answer}
use Rattle.commit_log.specs.Log.{geometry_ok, outside}
use Rattle.commit_log.specs.Door.{GeometryFits, Within}
use Rattle.commit_log.proofs.LogDoor.{geometry_fits, within, inside}
use Rattle.consume_queue.specs.Queue.{entries_ok, queue_rows, counts_ok}
use Rattle.index_file.specs.Index.{sizes_ok, header_sound}
use Rattle.machine.specs.Calls.{accepted, refused}
use Rattle.dispatch_request.specs.Request.{View}
use Rattle.dispatch_step.specs.Step.{Fixed, State}
use Rattle.dispatch.specs.Dispatch.{sizes_fit, is_refused, progress_bad, door_of, Extended}

shut : {a : Answer} → refused a ≡ accepted → ⊥
shut e = let z : ◌≡◌ {A = ℕ} 0 1 = cc in omega arith

-- checks 1, 3, 2 and 4
pub record Opened (f : Fixed) (v : View) (s : State) : Type 0 where
  pub sized : sizes_fit f.sizes (length v.log) (length s.index) ≡ true
  pub listed : is_refused (queue_rows f.directory f.sizes.queue_entries (length s.queues)) ≡ false
  pub placed : Within f.sizes.geometry (length v.log) s.progress.position v.end
  pub counted : counts_ok 16 f.sizes.queue_entries s.counts ≡ true
  pub header : header_sound f.sizes.index.item_count s.index ≡ true

module _ (f : Fixed) (v : View) (s : State) where
  pub opened : door_of f v s ≡ accepted → Opened f v s
  unfolding door_of progress_bad
  opened e =
      let z = f.sizes in
      let n = length v.log in
      let p₁ = passed (not (sizes_fit z n (length s.index))) _ _ accepted shut e in
      let p₂ = passed (is_refused (queue_rows f.directory z.queue_entries (length s.queues))) _ _ accepted shut p₁.rest in
      let p₃ = passed (outside z.geometry n s.progress.position v.end || not (counts_ok 16 z.queue_entries s.counts)) _ _ accepted shut p₂.rest in
      let p₄ = passed (not (header_sound z.index.item_count s.index)) _ _ accepted shut p₃.rest in
      let k = neither (outside z.geometry n s.progress.position v.end) (not (counts_ok 16 z.queue_entries s.counts)) p₃.fails in
      record {
        sized = not-false _ p₁.fails;
        listed = p₂.fails;
        placed = within z.geometry n s.progress.position v.end k.0;
        counted = not-false _ k.1;
        header = not-false _ p₄.fails;
      }

  pub opens : Opened f v s → door_of f v s ≡ accepted
  unfolding door_of progress_bad pick
  opens o =
      rw (
        o.sized,
        o.listed,
        inside f.sizes.geometry (length v.log) s.progress.position v.end o.placed,
        o.counted,
        o.header,
      )

  -- check 1 bounds the log
  pub bounded_log : door_of f v s ≡ accepted → GeometryFits f.sizes.geometry (length v.log)
  unfolding sizes_fit
  bounded_log e =
      let z = f.sizes in
      let b = both (geometry_ok z.geometry (length v.log) && entries_ok z.queue_entries) (sizes_ok z.index.slot_count z.index.item_count (length s.index)) (opened e).sized in
      geometry_fits z.geometry (length v.log) (both (geometry_ok z.geometry (length v.log)) (entries_ok z.queue_entries) b.0).0

-- each check but that of the position looks at what stays, or at the view alone
pub reopened : (f : Fixed) (v w : View) (s t : State) → Extended f v w → door_of f v s ≡ accepted → door_of f w t ≡ accepted → door_of f w s ≡ accepted
reopened f v w s t x a b =
    let o = opened f v s a in
    let p = o.placed in
    opens f w s
    (record {
      sized = rw x.size at o.sized;
      listed = o.listed;
      placed = record { from = p.from; to = omega (arith, p.to, x.grows); end = (opened f w t b).placed.end };
      counted = o.counted;
      header = o.header;
    })
