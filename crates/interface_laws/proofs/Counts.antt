-- The 16 counts: a step that is done, and so a call, keeps how many there are; a state that has 16 is what its progress, queues and files say.
-- Assumes nothing.
use Prim.Native.Nat.{ℕ, zero, suc}
use mathlib.Core.Path.{◌≡◌, refl, sym, ◌∙◌, ap, subst}
use mathlib.Core.Bool.{Bool, true, false}
use mathlib.Core.List.{List, [], ◌∷◌}
use lib.ListN.{length, length-set}
use Rattle.codec.specs.Choice.{pick}
use Rattle.consume_queue.specs.Entering.{entered_counts}
use Rattle.machine.specs.Steps.{moved, run}
use Rattle.machine.specs.Calls.{Door, accepted, refused, Call, door_at, call}
use Rattle.machine.proofs.Steps.{walk_keeps, run_stops}
use Rattle.machine.proofs.Lists.{call_accepted, call_refused}
use Rattle.dispatch_request.specs.Request.{View}
use Rattle.dispatch_step.specs.Step.{Fixed, State, written, moved_by, step_of}
use Rattle.dispatch_step.specs.Inner.{Moves, over_blank, over_record}
use Rattle.dispatch_step.proofs.Moves.{moves}
use Rattle.dispatch.specs.Dispatch.{dispatcher}
use Rattle.interface.specs.Structs.{numbers_from, progress_in, counts_in, progress_of}
use Rattle.swistopal.specs.Interface.{Lent, state_in, lent_of}

-- ---- n numbers of a list

length_numbers : (n at : ℕ) (l : List ℕ) → length (numbers_from n at l) ≡ n
unfolding numbers_from
length_numbers zero at l = refl
length_numbers (suc n) at l = ap suc (length_numbers n (suc at) l)

-- a number in front moves each place by one
numbers_behind : (n at x : ℕ) (l : List ℕ) → numbers_from n (suc at) (x ∷ l) ≡ numbers_from n at l
unfolding numbers_from
numbers_behind zero at x l = refl
numbers_behind (suc n) at x l = rw (numbers_behind n (suc at) x l)

-- as many as a list has are the list
numbers_whole : (l : List ℕ) → numbers_from (length l) 0 l ≡ l
unfolding numbers_from
numbers_whole [] = refl
numbers_whole (x ∷ l) = rw (numbers_behind (length l) 0 x l, numbers_whole l)

numbers_all : (n : ℕ) (l : List ℕ) → length l ≡ n → numbers_from n 0 l ≡ l
numbers_all n l e = subst (λ (m : ℕ). numbers_from m 0 l ≡ l) e (numbers_whole l)

-- ---- there and back

abbrev pub Counted : State → Type 0
Counted s = length s.counts ≡ 16

pub lent_counted : (l : Lent) → Counted (state_in l)
unfolding state_in counts_in
lent_counted l = length_numbers 16 1 l.progress

counts_back : (p : ℕ) (counts : List ℕ) → length counts ≡ 16 → numbers_from 16 1 (p ∷ numbers_from 16 0 counts) ≡ counts
counts_back p counts e =
    numbers_behind 16 0 p (numbers_from 16 0 counts) ∙ numbers_all 16 (numbers_from 16 0 counts) (length_numbers 16 0 counts) ∙ numbers_all 16 counts e

-- a progress array written from a state and read back is the state
pub there_and_back : (s : State) → Counted s → state_in (lent_of s) ≡ s
unfolding state_in lent_of progress_in counts_in progress_of
there_and_back s e = λ i. record { progress = s.progress; counts = counts_back s.progress.position.0 s.counts e i; queues = s.queues; index = s.index }

-- ---- what a call keeps

length_entered_counts : (makes : Bool) (row : ℕ) (counts : List ℕ) → length (entered_counts makes row counts) ≡ length counts
unfolding entered_counts pick
length_entered_counts true row counts = length-set counts row _
length_entered_counts false row counts = refl

step_counted : (f : Fixed) (v : View) (s t : State) → Counted s → step_of f v s ≡ moved t → Counted t
unfolding written moved_by
step_counted f v s t h e = go (moves f v s t e)
  where
    go : Moves f v s t → Counted t
    go (over_blank n g l b w) = subst Counted (sym w) h
    go (over_record q hs g d) = subst Counted (sym d.left) (length_entered_counts q.entry q.row s.counts ∙ h)

run_counted : (f : Fixed) (v : View) (b : ℕ) (s : State) → Counted s → Counted (run (step_of f v) b s).state
run_counted f v b s h = walk_keeps (step_of f v) Counted (step_counted f v) _ s _ h (run_stops (step_of f v) b s).walked

pub call_counted : (c : Call dispatcher) (s : State) → Counted s → Counted (call dispatcher c s).state
call_counted c s h = go (door_at dispatcher c s) refl
  where
    go : (o : Door) → door_at dispatcher c s ≡ o → Counted (call dispatcher c s).state
    go accepted e = rw (call_accepted dispatcher c s e) (run_counted c.fixed c.view c.budget s h)
    go (refused a) e = rw (call_refused dispatcher c s e) h
