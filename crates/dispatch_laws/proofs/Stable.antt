-- A step that is done is done over each view that extends the first. Assumes nothing.
use Prim.Native.Nat.{ℕ, ◌+◌, ◌-◌, ◌≤◌, ◌<◌}
use mathlib.Core.Path.{◌≡◌, refl, sym, ap, ◌∙◌}
use mathlib.Core.List.{List, []}
use native.Mathlib.Omega.{arith}
use lib.ListN.{take, drop, length-take, length-drop}
use lib.Seq.{ext_get_or, get_or-take, get_or-drop}
use borrow.Author.Tests.{eq-eqb}
use Rattle.std.specs.Prelude.{Ok, Err}
use Rattle.codec.specs.Bytes.{part}
use Rattle.codec.specs.Choice.{pick}
use Rattle.units.specs.declared.Answer.{Answer}
use Rattle.units.specs.declared.Answer.TheVariants.{Done}
use Rattle.units.specs.declared.LogPosition.{LogPosition}
use Rattle.units.specs.declared.Place.{Place}
use Rattle.record.specs.declared.Record.{Record}
use Rattle.record.specs.declared.Entry.TheVariants.{Blank, Message}
use Rattle.record.specs.Record.{LogEntry, message_of}
use Rattle.record.specs.Claims.{Whole}
use Rattle.record.proofs.Entries.{no_entry}
use Rattle.record.proofs.Soundness.{blank_padded, message_framed, message_sound}
use Rattle.commit_log.specs.declared.Geometry.{Geometry}
use Rattle.commit_log.specs.Log.{segment_rest, seen, entry_within, place_bytes, Extends}
use Rattle.commit_log.proofs.Stays.{entry_stays}
use Rattle.machine.specs.Steps.{moved}
use Rattle.machine.proofs.Steps.{never}
use Rattle.dispatch_request.specs.Request.{View, stop, made_of, stands_as, stands_at}
use Rattle.dispatch_request.proofs.Standing.{seen_most, stands_as_is}
use Rattle.dispatch_step.specs.Step.{Fixed, State, position_of, step_as, step_of}
use Rattle.dispatch.specs.Dispatch.{Extended}

-- bytes below the readable end
part_stays : (g : Geometry) (log log' : List ℕ) (e e' : LogPosition) (n at : ℕ) → Extends g log log' e e' → g.first_position.0 + (at + n) ≤ e.0
    → part n at log' ≡ part n at log
unfolding part
part_stays g log log' e e' n at x h =
    ext_get_or 0 (take n (drop at log')) (take n (drop at log))
    (simp (length-take, length-drop, x.size))
    (λ i l.
    let b : i < n = omega (arith, simp length-take at l) in
    get_or-take n (drop at log') i 0 b
    ∙ get_or-drop at log' i 0
    ∙ sym (x.stay (at + i) (omega arith))
    ∙ sym (get_or-take n (drop at log) i 0 b ∙ get_or-drop at log i 0))

-- of a record that was read, topic and properties lie within its total
record Parts (m : Record) : Type 0 where
  pub topic : m.topic.at + m.topic.len ≤ m.total
  pub properties : m.properties.at + m.properties.len ≤ m.total

parts : (log : List ℕ) (g : Geometry) (p e : LogPosition) (m : Record) → entry_within log g p e ≡ Ok (Message m) → Parts m
unfolding entry_within message_of
parts log g p e m h =
    let is = (message_sound p (segment_rest g p) (seen log g p e) m h).1 in
    let n = ap (λ (x : Record). x.total) is in
    let ta = ap (λ (x : Record). x.topic.at) is in
    let tl = ap (λ (x : Record). x.topic.len) is in
    let qa = ap (λ (x : Record). x.properties.at) is in
    let ql = ap (λ (x : Record). x.properties.len) is in
    record { topic = omega arith; properties = omega arith }

-- before the readable end what stands there is the entry's
stands_is : (directory : List ℕ) (g : Geometry) (v : View) (p : LogPosition) (y : LogEntry) → p.0 < v.end.0 → entry_within v.log g p v.end ≡ y
    → stands_at directory g v p ≡ stands_as directory g v p y
stands_is directory g v p y l h = stands_as_is directory g v p [] (sym h) (λ e. omega arith)

module _ (directory : List ℕ) (g : Geometry) (v w : View) (p : LogPosition) where
  -- and it looks at the view no further than at topic and properties
  blank_same : (n : ℕ) → stands_as directory g w p (Ok (Blank n)) ≡ stands_as directory g v p (Ok (Blank n))
  unfolding stands_as
  blank_same n = refl

  message_same : (m : Record) → place_bytes w.log g p m.topic ≡ place_bytes v.log g p m.topic
      → place_bytes w.log g p m.properties ≡ place_bytes v.log g p m.properties
      → stands_as directory g w p (Ok (Message m)) ≡ stands_as directory g v p (Ok (Message m))
  unfolding stands_as made_of
  message_same m i j = rw (i, j)

  module _ (from : g.first_position.0 ≤ p.0) (x : Extends g v.log w.log v.end w.end) where
    -- over the same entry
    over : (y : LogEntry) → Whole y → p.0 < v.end.0 → entry_within v.log g p v.end ≡ y → stands_as directory g w p y ≡ stands_as directory g v p y
        → stands_at directory g w p ≡ stands_at directory g v p
    over y o l h same =
        stands_is directory g w p y (omega (arith, l, x.grows)) (entry_stays g v.log w.log p v.end w.end y from (omega arith) x o h)
        ∙ same
        ∙ sym (stands_is directory g v p y l h)

    place_stays : (k : Place) (n : ℕ) → k.at + k.len ≤ n → p.0 + n ≤ v.end.0 → place_bytes w.log g p k ≡ place_bytes v.log g p k
    place_stays k n i l = part_stays g v.log w.log v.end w.end k.len (p.0 - g.first_position.0 + k.at) x (omega arith)

    -- what stands there, if it is no stop
    stays : ((a : Answer) → stands_at directory g v p ≡ stop a → ⊥) → stands_at directory g w p ≡ stands_at directory g v p
    unfolding stands_at stands_as entry_within pick
    stays goes = go (entry_within v.log g p v.end) refl
      where
        before : p.0 ≡ v.end.0 → ⊥
        before e = goes Done (rw (eq-eqb p.0 v.end.0 e))

        go : (y : LogEntry) → entry_within v.log g p v.end ≡ y → stands_at directory g w p ≡ stands_at directory g v p
        go (Err a) h = absurd (goes a (stands_as_is directory g v p [] (sym h) before))
        go (Ok (Blank n)) h =
            let k = blank_padded _ _ _ n h in
            over (Ok (Blank n)) (λ a. no_entry) (omega (arith, k.0, k.1.below, seen_most v.log g p v.end)) h (blank_same n)
        go (Ok (Message m)) h =
            let k = message_framed _ _ _ m h in
            let b : p.0 + m.total ≤ v.end.0 = omega (arith, k.least, k.below, seen_most v.log g p v.end) in
            let z = parts v.log g p v.end m h in
            over (Ok (Message m)) (λ a. no_entry) (omega (arith, k.least)) h
            (message_same m (place_stays m.topic m.total z.topic b) (place_stays m.properties m.total z.properties b))

pub stable : (f : Fixed) (v w : View) (s t : State) → f.sizes.geometry.first_position.0 ≤ position_of s → Extended f v w
    → step_of f v s ≡ moved t → step_of f w s ≡ moved t
unfolding step_of step_as
stable f v w s t b x e = ap (step_as f s) (stays f.directory f.sizes.geometry v w s.progress.position b x (λ a h. never (sym (ap (step_as f s) h) ∙ e))) ∙ e
