-- Demand 2's query clause on an index that dispatch calls built from empty. Assumes nothing.
use Prim.Native.Nat.{ℕ, zero, suc, ◌+◌, ◌*◌, ◌≤◌}
use native.Mathlib.Omega.{arith}
use mathlib.Core.Path.{◌≡◌, refl, subst}
use mathlib.Core.Logic.{⊎_elim}
use mathlib.Core.Bool.{true, ◌&&◌}
use mathlib.Core.List.{List, []}
use lib.ListN.{length}
use Rattle.codec.proofs.Choices.{both}
use Rattle.commit_log.specs.Log.{geometry_ok}
use Rattle.consume_queue.specs.Queue.{entries_ok}
use Rattle.index_file.specs.Index.{sizes_ok}
use Rattle.index_laws.specs.History.{Empty, Put, build}
use Rattle.index_file.specs.Room.{IndexSized}
use Rattle.index_laws.specs.Claims.{Built}
use Rattle.index_file.proofs.Judged.{sizes_facts}
use Rattle.index_file.proofs.Items.{checked_room}
use Rattle.index_laws.proofs.History.{fresh_empty, fresh_one, built_holds, put_built, filed_built, rising_times}
use Rattle.index_laws.proofs.Exact.{query_exact}
use Rattle.machine.specs.Steps.{Outcome, moved, stopped, and_then, iterate, run}
use Rattle.machine.specs.Calls.{accepted, steps_in_all, final, Leads}
use Rattle.machine.proofs.Steps.{moved_inj, never, run_stops}
use Rattle.machine.proofs.Lists.{call_accepted}
use Rattle.dispatch_step.specs.declared.Sizes.{Sizes}
use Rattle.dispatch_request.specs.Request.{View}
use Rattle.dispatch_request.proofs.Standing.{stands_small}
use Rattle.dispatch_step.specs.Step.{Fixed, State, position_of, stands_here, written, moved_by, step_of}
use Rattle.dispatch_step.specs.Inner.{Moves, over_blank, over_record}
use Rattle.dispatch_step.proofs.Moves.{moves}
use Rattle.dispatch.specs.Dispatch.{sizes_fit, door_of, dispatcher}
use Rattle.dispatch_laws.specs.History.{put_by, onward, puts}
use Rattle.dispatch_laws.specs.Claims.{CallBuilds, QueryAfterCalls, QueryAfterRisingTimes}
use Rattle.dispatch_laws.proofs.DoorStays.{opened, bounded_log}
use Rattle.dispatch_laws.proofs.Demand3.{demand_3, accepted_at}

-- ---- steps

-- the door lets an index through that was built
built_sized : (k n : ℕ) (start : List ℕ) (ps : List Put) → Built k n start ps → IndexSized k n (build k start ps)
built_sized k n start ps b =
    let z = (sizes_facts k n (length start) b.sizes).0 in
    let h = built_holds k n start ps b in
    record {
      some = z.some;
      most = z.most;
      few = z.few;
      long = h.long;
      count = let a = h.sound.used in omega arith;
      fill = let a = h.sound.filled in omega arith;
    }

module _ (f : Fixed) (v : View) (top : v.end.0 ≤ 1099511627776) (start : List ℕ) where
  abbrev k : ℕ
  k = f.sizes.index.slot_count

  abbrev n : ℕ
  n = f.sizes.index.item_count

  -- the index is the one that ps built
  record Stands (index : List ℕ) (ps : List Put) : Type 0 where
    pub built : Built k n start ps
    pub is : index ≡ build k start ps

  step_stands : (s t : State) (ps : List Put) → Stands s.index ps → step_of f v s ≡ moved t → Stands t.index (put_by s (stands_here f v s) ps)
  unfolding put_by moved_by written
  step_stands s t ps h e = go (moves f v s t e)
    where
      go : Moves f v s t → Stands t.index (put_by s (stands_here f v s) ps)
      go (over_blank m here least below left) = rw (here, left) h
      go (over_record q hs here w) =
          let p = position_of s in
          let time = q.store_time in
          let room = checked_room k n s.index p hs (rw h.is (built_sized k n start ps h.built)) w.checked in
          rw (here, w.left)
          (record {
            built = filed_built k n start ps p time hs h.built (rw h.is at room) (stands_small f.directory f.sizes.geometry v s.progress.position q hs here)
                (let a = w.below in omega arith) w.time;
            is = rw h.is (put_built k p time hs start ps);
          })

  walk_stands : (m : ℕ) (s t : State) (ps : List Put) → Stands s.index ps → iterate (step_of f v) m s ≡ moved t → Stands t.index (puts f v m s ps)
  unfolding iterate and_then puts onward
  walk_stands zero s t ps h e = subst (λ (u : State). Stands u.index ps) (moved_inj e) h
  walk_stands (suc m) s t ps h e = go (step_of f v s) refl (walk_stands m) e
    where
      go : (o : Outcome State) → step_of f v s ≡ o
          → ((s t : State) (ps : List Put) → Stands s.index ps → iterate (step_of f v) m s ≡ moved t → Stands t.index (puts f v m s ps))
          → and_then o (iterate (step_of f v) m) ≡ moved t → Stands t.index (onward o ps (λ u. puts f v m u (put_by s (stands_here f v s) ps)))
      go (moved u) w ih g = ih u t _ (step_stands s u ps h w) g
      go (stopped a) w ih g = never g

-- ---- a call

-- the readable end of a call that is accepted is at most 2^40
end_small : (f : Fixed) (v : View) (s : State) → door_of f v s ≡ accepted → v.end.0 ≤ 1099511627776
end_small f v s e = omega (arith, (opened f v s e).placed.end, (bounded_log f v s e).top)

pub call_builds : CallBuilds
call_builds c s start ps e b i =
    let f = c.fixed in
    let v = c.view in
    let r = run (step_of f v) c.budget s in
    let w = walk_stands f v (end_small f v s e) start r.steps s r.state ps (record { built = b; is = i }) (run_stops (step_of f v) c.budget s).walked in
    rw (call_accepted dispatcher c s e) (w.built, w.is)

-- ---- the list

index_sizes : (z : Sizes) (log index : ℕ) → sizes_fit z log index ≡ true → sizes_ok z.index.slot_count z.index.item_count index ≡ true
unfolding sizes_fit
index_sizes z log index e = (both (geometry_ok z.geometry log && entries_ok z.queue_entries) _ e).1

-- an empty index of sizes within their limits is built, by no put
built_none : (k n long : ℕ) (start : List ℕ) → sizes_ok k n long ≡ true → Empty k n start → Built k n start []
built_none k n long start e z =
    let l : length start ≡ 40 + 4 * k + 20 * n = ⊎_elim (λ w. rw w (fresh_empty k n).long) (λ w. rw w (fresh_one k n).long) z in
    let i = sizes_facts k n long e in
    record { sizes = rw (l, ← i.1) e; empty = z; room = (let a = i.0.two in omega arith); fit = tt }

pub query_after_calls : QueryAfterCalls
unfolding Leads build
query_after_calls rs s chain steady d l z rise topic key first last wanted out q =
    let f = d.fixed in
    let v = d.view in
    let t = accepted_at dispatcher rs s d l in
    let o = opened f v t.0 t.1 in
    let w = walk_stands f v (end_small f v t.0 t.1) s.index (steps_in_all dispatcher rs) s (final dispatcher rs s) []
    (record { built = built_none _ _ (length t.0.index) s.index (index_sizes f.sizes _ _ o.sized) z; is = refl })
    (rw l at (demand_3 rs s chain steady).whole) in
    rw w.is (query_exact _ _ s.index (puts f v (steps_in_all dispatcher rs) s []) w.built rise topic key first last wanted out q)

pub query_after_rising_times : QueryAfterRisingTimes
query_after_rising_times rs s chain steady d l z rise = query_after_calls rs s chain steady d l z (rising_times _ _ rise)
