-- No step is stopped with 9: a call that answers 9 has spent its budget. Assumes nothing.
use Prim.Native.Nat.{ℕ}
use mathlib.Core.Path.{◌≡◌, refl, subst}
use mathlib.Core.Logic.{◌⊎◌, inl, inr}
use mathlib.Core.Bool.{Bool, true, false, not, ◌&&◌, ◌||◌}
use mathlib.Core.List.{List}
use native.Mathlib.Omega.{arith}
use lib.Dec.{leb, eqb}
use lib.ListN.{length, get_or}
use Rattle.std.specs.Prelude.{Ok, Err}
use Rattle.codec.proofs.Choices.{pick_either}
use Rattle.units.specs.declared.LogPosition.{LogPosition}
use Rattle.units.specs.declared.QueueOffset.{QueueOffset}
use Rattle.units.specs.declared.Answer.{Answer}
use Rattle.units.specs.declared.Answer.TheVariants.{Done, NotReadable, Damaged}
use Rattle.units.specs.Answers.{number_of}
use Rattle.record.specs.declared.Entry.TheVariants.{Blank, Message}
use Rattle.record.specs.Record.{LogEntry, entry_at}
use Rattle.record.proofs.Stops.{entry_stops}
use Rattle.commit_log.specs.declared.Geometry.{Geometry}
use Rattle.commit_log.specs.Log.{segment_rest, seen, entry_within}
use Rattle.consume_queue.specs.Entering.{entry_answer}
use Rattle.index_file.specs.Items.{is_ahead, is_full, any_bad_slot, items_answer}
use Rattle.machine.specs.Steps.{Outcome, moved, stopped}
use Rattle.dispatch_request.specs.Request.{View, Stands, stop, blank as padded, request, made_of, stands_as, stands_at}
use Rattle.dispatch_step.specs.Step.{Fixed, State, position_of, unless, filed, step_as, stands_here, step_of}
use Rattle.dispatch_laws.specs.Claims.{NeverSpent}

-- the answers of rules 1 to 7, but for a spent budget: 0, 8, 10 to 16
abbrev byRule : Answer → Bool
byRule a = eqb (number_of a) 0 || eqb (number_of a) 8 || (leb 10 (number_of a) && leb (number_of a) 16)

abbrev Ruled : Answer → Type 0
Ruled a = byRule a ≡ true

-- an entry, what stands in the log, and an outcome that, if they stop, stop so
abbrev Reads : LogEntry → Type 0
Reads y = (a : Answer) → y ≡ Err a → Ruled a

abbrev Halts : Stands → Type 0
Halts x = (a : Answer) → x ≡ stop a → Ruled a

abbrev Goes : Outcome State → Type 0
Goes o = (a : Answer) → o ≡ stopped a → Ruled a

-- ---- rules 2 to 4

entry-reads : (p : LogPosition) (r : ℕ) (seen : List ℕ) → Reads (entry_at p r seen)
entry-reads p r seen a e = by (entry_stops p r seen a e)
  where
    by : (a ≡ NotReadable) ⊎ (a ≡ Damaged) → Ruled a
    by (inl z) = rw z refl
    by (inr z) = rw z refl

-- ---- rules 1 to 4

stands-halts : (directory : List ℕ) (g : Geometry) (v : View) (p : LogPosition) → Halts (stands_at directory g v p)
unfolding stands_at stands_as made_of entry_within
stands-halts directory g v p =
    pick_either Halts (eqb p.0 v.end.0) _ _ (halt Done refl) (go (entry_within v.log g p v.end) (entry-reads p (segment_rest g p) (seen v.log g p v.end)))
  where
    halt : (b : Answer) → Ruled b → Halts (stop b)
    halt b r a e = let same : b ≡ a = cc in subst Ruled same r

    go : (y : LogEntry) → Reads y → Halts (stands_as directory g v p y)
    go (Err b) r = halt b (r b refl)
    go (Ok (Blank n)) r = λ a e. absurd cc
    go (Ok (Message m)) r = λ a e. absurd cc

-- ---- rules 6 and 7

entry-ruled : (makes : Bool) (row : ℕ) (offset : QueueOffset) (r : ℕ) (counts : List ℕ) → Ruled (entry_answer makes row offset r counts)
unfolding entry_answer
entry-ruled makes row offset r counts =
    pick_either Ruled (not makes) _ _ refl
    (pick_either Ruled (eqb row 16) _ _ refl
    (pick_either Ruled (not (eqb offset.0 (get_or counts row 0))) _ _ refl
    (pick_either Ruled (eqb (get_or counts row 0) r) _ _ refl refl)))

items-ruled : (k n : ℕ) (index : List ℕ) (position : ℕ) (hs : List ℕ) → Ruled (items_answer k n index position hs)
unfolding items_answer
items-ruled k n index position hs =
    pick_either Ruled (eqb (length hs) 0) _ _ refl
    (pick_either Ruled (is_ahead index position) _ _ refl
    (pick_either Ruled (is_full n index (length hs)) _ _ refl
    (pick_either Ruled (any_bad_slot k index hs) _ _ refl refl)))

halts : (b : Answer) → Ruled b → Goes (stopped b)
halts b r a e = let same : b ≡ a = cc in subst Ruled same r

unless-goes : (a : Answer) (next : Outcome State) → Ruled a → Goes next → Goes (unless a next)
unfolding unless
unless-goes a next r g = pick_either Goes (eqb (number_of a) 0) next (stopped a) g (halts a r)

done : {t : State} → Goes (moved t)
done a e = absurd cc

step-goes : (f : Fixed) (v : View) (s : State) → Goes (step_of f v s)
unfolding step_of step_as filed
step-goes f v s = go (stands_here f v s) (stands-halts f.directory f.sizes.geometry v s.progress.position)
  where
    go : (x : Stands) → Halts x → Goes (step_as f s x)
    go (stop a) h = halts a (h a refl)
    go (padded n) h = done
    go (request q hs) h =
        unless-goes (entry_answer q.entry q.row q.queue_offset f.sizes.queue_entries s.counts) _
        (entry-ruled q.entry q.row q.queue_offset f.sizes.queue_entries s.counts)
        (unless-goes _ _ (items-ruled f.sizes.index.slot_count f.sizes.index.item_count s.index (position_of s) hs) done)

pub never_spent : NeverSpent
never_spent f v s e =
    let z : false ≡ true = step-goes f v s _ e in
    let y : ◌≡◌ {A = ℕ} 0 1 = cc in
    omega arith
