-- The ways through the door of a call. Assumes nothing.
use Prim.Native.Nat.{ℕ, ◌+◌, ◌≤◌}
use mathlib.Core.Path.{◌≡◌, sym, ◌∙◌}
use mathlib.Core.Bool.{Bool, true, false, not, ◌&&◌, ◌||◌}
use mathlib.Core.List.{List}
use native.Mathlib.Omega.{arith}
use lib.Dec.{ltb}
use lib.ListN.{length}
use borrow.Author.Tests.{not-false}
use Rattle.std.specs.Prelude.{Option, None, Some}
use Rattle.codec.specs.Choice.{pick}
use Rattle.codec.proofs.Choices.{both, neither}
use Rattle.units.specs.declared.LogPosition.{LogPosition}
use Rattle.units.specs.declared.Answer.{Answer}
use Rattle.units.specs.declared.Answer.TheVariants.{BadSizes, BadPosition, BadDirectory, BadHeader, BudgetSpent}
use Rattle.commit_log.specs.Log.{geometry_ok, outside}
use Rattle.commit_log.specs.Door.{GeometryFits}
use Rattle.commit_log.proofs.LogDoor.{geometry_fits, within}
use Rattle.consume_queue.specs.Queue.{entries_ok, queue_rows, counts_ok}
use Rattle.index_file.specs.Index.{sizes_ok, header_sound}
use Rattle.index_file.proofs.Judged.{sizes_facts, door_sized}
use Rattle.machine.specs.Steps.{Ran, run}
use Rattle.machine.specs.Calls.{accepted, refused, call}
use Rattle.machine.proofs.Steps.{walk_zero, run_spent}
use Rattle.machine.proofs.Lists.{call_accepted, call_refused}
use Rattle.dispatch_request.specs.Request.{View}
use Rattle.dispatch_step.specs.declared.Sizes.{Sizes}
use Rattle.dispatch_step.specs.declared.Progress.{Progress}
use Rattle.dispatch_step.specs.Step.{Fixed, State, step_of}
use Rattle.dispatch_step.specs.Door.{Admitted}
use Rattle.dispatch.specs.declared.Dispatched.{Dispatched}
use Rattle.dispatch.specs.Dispatch.{sizes_fit, is_refused, progress_bad, door_of, dispatcher, ran_of}

-- ---- the checks

module _ (z : Sizes) (log index : ℕ) where
  pub sizes_judged : {g e i : Bool} → g ≡ geometry_ok z.geometry log → e ≡ entries_ok z.queue_entries → i ≡ sizes_ok z.index.slot_count z.index.item_count index
      → (g && e && i) ≡ sizes_fit z log index
  unfolding sizes_fit
  sizes_judged a b c = rw (a, b, c)

  -- check 1, by its parts
  pub record SizesFit : Type 0 where
    pub geometry : GeometryFits z.geometry log
    pub entries : entries_ok z.queue_entries ≡ true
    pub sizes : sizes_ok z.index.slot_count z.index.item_count index ≡ true

  pub sizes_known : sizes_fit z log index ≡ true → SizesFit
  unfolding sizes_fit
  sizes_known e =
      let b = both (geometry_ok z.geometry log && entries_ok z.queue_entries) (sizes_ok z.index.slot_count z.index.item_count index) e in
      let a = both (geometry_ok z.geometry log) (entries_ok z.queue_entries) b.0 in
      record { geometry = geometry_fits _ _ a.0; entries = a.1; sizes = b.1 }

  -- the index has a header
  pub index_long : sizes_fit z log index ≡ true → 40 ≤ index
  index_long e = let w = (sizes_facts _ _ _ (sizes_known e).sizes).1 in omega arith

pub progress_judged : (z : Sizes) (log : ℕ) (p : Progress) (e : LogPosition) (counts : List ℕ) {ok : Bool} → ok ≡ counts_ok 16 z.queue_entries counts
    → (ltb p.position.0 z.geometry.first_position.0 || ltb e.0 p.position.0 || ltb (z.geometry.first_position.0 + log) e.0 || not ok) ≡ progress_bad z log p e counts
unfolding progress_bad outside
progress_judged z log p e counts c = rw c

-- ---- the ways through the door

module _ (f : Fixed) (v : View) (s : State) where
  pub door_sizes : sizes_fit f.sizes (length v.log) (length s.index) ≡ false → door_of f v s ≡ refused BadSizes
  unfolding door_of pick
  door_sizes e = rw e

  module _ (sizes : sizes_fit f.sizes (length v.log) (length s.index) ≡ true) {l : Option ℕ} (rows : l ≡ queue_rows f.directory f.sizes.queue_entries (length s.queues)) where
    pub door_directory : l ≡ None → door_of f v s ≡ refused BadDirectory
    unfolding door_of pick is_refused
    door_directory e = rw (sizes, ← rows, e)

    module _ {n : ℕ} (listed : l ≡ Some n) {bad : Bool} (progress : bad ≡ progress_bad f.sizes (length v.log) s.progress v.end s.counts) where
      pub door_position : bad ≡ true → door_of f v s ≡ refused BadPosition
      unfolding door_of pick is_refused
      door_position e = rw (sizes, ← rows, listed, ← progress, e)

      module _ (placed : bad ≡ false) where
        pub door_header : header_sound f.sizes.index.item_count s.index ≡ false → door_of f v s ≡ refused BadHeader
        unfolding door_of pick is_refused
        door_header e = rw (sizes, ← rows, listed, ← progress, placed, e)

        pub door_open : header_sound f.sizes.index.item_count s.index ≡ true → door_of f v s ≡ accepted
        unfolding door_of pick is_refused
        door_open e = rw (sizes, ← rows, listed, ← progress, placed, e)

        -- what the checks make sure of
        pub door_sound : header_sound f.sizes.index.item_count s.index ≡ true → Admitted f v s
        unfolding progress_bad
        door_sound e =
            let z = sizes_known _ _ _ sizes in
            let p = neither (outside f.sizes.geometry (length v.log) s.progress.position v.end) (not (counts_ok 16 f.sizes.queue_entries s.counts)) (sym progress ∙ placed) in
            record {
              geometry = z.geometry;
              within = within _ _ _ _ p.0;
              ready = record {
                rows = n;
                entries = z.entries;
                listed = sym rows ∙ listed;
                counted = not-false _ p.1;
                sized = door_sized _ _ _ z.sizes e;
              };
            }

-- ---- the call

module _ (f : Fixed) (v : View) (b : ℕ) (s : State) where
  pub call_shut : {a : Answer} {r : Dispatched} → r ≡ record { answer = a; steps = 0; progress = s.progress } → door_of f v s ≡ refused a
      → ran_of r s.counts s.queues s.index ≡ call dispatcher (record { fixed = f; view = v; budget = b }) s
  call_shut d e = rw d (sym (call_refused dispatcher _ s e))

  pub call_runs : {r : Ran State} → r ≡ run (step_of f v) b s → door_of f v s ≡ accepted → r ≡ call dispatcher (record { fixed = f; view = v; budget = b }) s
  call_runs d e = d ∙ sym (call_accepted dispatcher _ s e)

  -- a budget of 0 is spent at once
  pub call_none : {r : Dispatched} → r ≡ record { answer = BudgetSpent; steps = 0; progress = s.progress } → b ≡ 0 → door_of f v s ≡ accepted
      → ran_of r s.counts s.queues s.index ≡ call dispatcher (record { fixed = f; view = v; budget = b }) s
  call_none d z e = call_runs (rw (d, z) (sym (run_spent (step_of f v) 0 s (walk_zero (step_of f v) s)))) e
