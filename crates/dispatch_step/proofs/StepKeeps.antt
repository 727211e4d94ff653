-- What a step keeps, and so many steps from a state. Assumes nothing.
use Prim.Native.Nat.{ℕ, ◌+◌, ◌≤◌, ◌<◌}
use mathlib.Core.Path.{◌≡◌, refl, sym, ◌∙◌, ap, subst}
use native.Mathlib.Omega.{arith}
use lib.ListN.{length}
use Rattle.consume_queue.proofs.Entering.{entered_counts_ok, length_entered}
use Rattle.index_file.proofs.Items.{checked_room, put_all_sized}
use Rattle.machine.specs.Steps.{moved, iterate}
use Rattle.machine.proofs.Steps.{walk_zero, walk_add, walk_more, walk_keeps}
use Rattle.dispatch_request.specs.Request.{View}
use Rattle.dispatch_step.specs.Step.{Fixed, State, written, moved_by, step_of}
use Rattle.dispatch_step.specs.Door.{Admitted}
use Rattle.dispatch_step.specs.Inner.{Moves, over_blank, over_record}
use Rattle.dispatch_step.proofs.Moves.{moves}

-- ---- what a step keeps

pub sound_kept : (f : Fixed) (v : View) (s t : State) → Admitted f v s → step_of f v s ≡ moved t → Admitted f v t
unfolding written moved_by
sound_kept f v s t h e = go (moves f v s t e)
  where
    go : Moves f v s t → Admitted f v t
    go (over_blank n g l b w) =
        let y = h.ready in
        subst (Admitted f v) (sym w)
        (record {
          geometry = h.geometry;
          within = record { from = omega (arith, h.within.from); to = b; end = h.within.end };
          ready = record { rows = y.rows; entries = y.entries; listed = y.listed; counted = y.counted; sized = y.sized };
        })
    go (over_record q hs g d) =
        let y = h.ready in
        subst (Admitted f v) (sym d.left)
        (record {
          geometry = h.geometry;
          within = record { from = omega (arith, h.within.from); to = d.below; end = h.within.end };
          ready = record {
            rows = y.rows;
            entries = y.entries;
            listed = rw (length_entered q.entry q.row f.sizes.queue_entries s.counts _ s.queues) y.listed;
            counted = entered_counts_ok q.entry q.row q.queue_offset f.sizes.queue_entries s.counts d.entered y.counted;
            sized = put_all_sized _ _ _ _ hs s.index (checked_room _ _ _ _ hs y.sized d.checked);
          };
        })

queues_kept : (f : Fixed) (v : View) (s t : State) → step_of f v s ≡ moved t → length t.queues ≡ length s.queues
unfolding written moved_by
queues_kept f v s t e = go (moves f v s t e)
  where
    go : Moves f v s t → length t.queues ≡ length s.queues
    go (over_blank n g l b w) = ap (λ (u : State). length u.queues) w
    go (over_record q hs g d) = ap (λ (u : State). length u.queues) d.left ∙ length_entered q.entry q.row f.sizes.queue_entries s.counts _ s.queues

-- ---- so many steps

-- after k steps from s, of a budget of b, the state is t
pub record Going (f : Fixed) (v : View) (s t : State) (k b : ℕ) : Type 0 where
  pub walked : iterate (step_of f v) k s ≡ moved t
  pub sound : Admitted f v t
  pub queued : length t.queues ≡ length s.queues
  pub indexed : length t.index ≡ length s.index
  pub within : k ≤ b

module _ (f : Fixed) (v : View) (s : State) (b : ℕ) where
  pub going_start : Admitted f v s → Going f v s s 0 b
  going_start h = record { walked = walk_zero (step_of f v) s; sound = h; queued = refl; indexed = refl; within = omega arith }

  module _ (t : State) (k : ℕ) (g : Going f v s t k b) where
    -- m steps more
    pub going_far : (m : ℕ) {u : State} → iterate (step_of f v) m t ≡ moved u → k + m ≤ b → Going f v s u (k + m) b
    going_far m {u} w l =
        let h = walk_keeps (step_of f v) (Admitted f v) (sound_kept f v) m t u g.sound w in
        record {
          walked = walk_add (step_of f v) k m s g.walked ∙ w;
          sound = h;
          queued = walk_keeps (step_of f v) (λ (x : State). length x.queues ≡ length s.queues) (λ x y e d. queues_kept f v x y d ∙ e) m t u g.queued w;
          indexed = h.ready.sized.long ∙ sym g.sound.ready.sized.long ∙ g.indexed;
          within = l;
        }

    pub going_step : {u : State} → step_of f v t ≡ moved u → k < b → Going f v s u (k + 1) b
    going_step e l = going_far 1 (walk_more (step_of f v) 0 t (walk_zero (step_of f v) t) e) (omega arith)
