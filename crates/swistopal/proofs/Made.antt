-- What the layer's function promised, as the C function's numbers. Assumes nothing.
use Prim.Native.Nat.{ℕ}
use mathlib.Core.Path.{◌≡◌, ◌∙◌, ap}
use mathlib.Core.List.{List}
use Rattle.std.proofs.Common.{Option, Result, Ok, Err}
use Rattle.units.specs.declared.Answer.{Answer}
use Rattle.units.specs.declared.Answer.TheVariants.{Done}
use Rattle.units.specs.Answers.{number_of}
use Rattle.consume_queue.specs.Queue.{queue_read}
use Rattle.machine.specs.Calls.{call}
use Rattle.dispatch_step.specs.declared.Sizes.{Sizes}
use Rattle.dispatch_step.specs.declared.Progress.{Progress}
use Rattle.dispatch_step.specs.Step.{state_of}
use Rattle.dispatch.specs.declared.Dispatched.{Dispatched}
use Rattle.dispatch.specs.Dispatch.{dispatcher, call_of, ran_of}
use Rattle.interface.specs.Structs.{position, queue_entries_in, sizes_in, progress_in, counts_in, progress_of}
use Rattle.swistopal.specs.Interface.{lent, state_in, lent_of, dispatch_gives, call_in, Dispatches, answer_made, found_made, queue_gives, read_queue}

pub dispatched : (sizes directory log : List ℕ) (end budget : ℕ) (progress queues files : List ℕ) {z : Sizes} {now : Progress} {counts : List ℕ}
    (r : Dispatched) (counts' progress' queues' files' : List ℕ) (n : ℕ)
    → z ≡ sizes_in sizes → now ≡ progress_in progress → counts ≡ counts_in progress
    → ran_of r counts' queues' files' ≡ call dispatcher (call_of z directory log (position end) budget) (state_of now counts queues files)
    → progress' ≡ progress_of r.progress counts' → n ≡ number_of r.answer
    → Dispatches (call_in sizes directory log end budget) (lent progress queues files) n r.steps (lent progress' queues' files')
unfolding dispatch_gives lent_of state_in
dispatched sizes directory log end budget progress queues files r counts' progress' queues' files' n z a c e p h =
    (λ i. record { answer = h i; steps = r.steps; left = record { progress = p i; queues = queues'; files = files' } })
    ∙ ap dispatch_gives e
    ∙ (λ i. dispatch_gives (call dispatcher (call_of (z i) directory log (position end) budget) (state_of (a i) (c i) queues files)))

-- of a queue reading that was made, its answer's number and how many it found
module _ (queues sizes directory progress : List ℕ) (row start wanted : ℕ) (tag : Option ℕ) (out : List ℕ) {entries : ℕ} {counts : List ℕ} {tag' : Option ℕ}
    (r : Result ℕ Answer) (out' : List ℕ) (s : entries ≡ queue_entries_in sizes) (c : counts ≡ counts_in progress) (t : tag' ≡ tag)
    (e : record { made = r; out = out' } ≡ queue_read queues entries directory counts row (record { 0 = start }) wanted tag' out) where
  given : (n : ℕ) (found : ℕ) → n ≡ number_of (answer_made r) → found ≡ found_made r → record { answer = n; out = out'; found = found } ≡ read_queue queues sizes directory progress row start wanted tag out
  unfolding read_queue queue_gives
  given n found h f =
      (λ i. record { answer = h i; out = out'; found = f i })
      ∙ ap queue_gives e
      ∙ (λ i. queue_gives (queue_read queues (s i) directory (c i) row (record { 0 = start }) wanted (t i) out))

  pub read_done : {n found : ℕ} → r ≡ Ok found → n ≡ number_of Done → record { answer = n; out = out'; found = found } ≡ read_queue queues sizes directory progress row start wanted tag out
  unfolding answer_made found_made
  read_done {n} {found} d h = given n found (rw d h) (rw d)

  pub read_refused : {n : ℕ} {a : Answer} → r ≡ Err a → n ≡ number_of a → record { answer = n; out = out'; found = 0 } ≡ read_queue queues sizes directory progress row start wanted tag out
  unfolding answer_made found_made
  read_refused {n} d h = given n 0 (rw d h) (rw d)
