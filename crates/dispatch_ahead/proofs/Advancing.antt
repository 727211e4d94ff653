-- Requests filed one behind the other: the loop of an advance, and how it ends. Assumes nothing.
use Prim.Native.Nat.{ℕ, zero, suc, ◌+◌, ◌-◌, ◌≤◌, ◌<◌}
use native.Mathlib.Numerals.{add-one}
use native.Mathlib.Omega.{arith}
use mathlib.Core.Path.{◌≡◌, refl, sym, ◌∙◌, ap, subst}
use mathlib.Core.Bool.{Bool, true, false, not}
use mathlib.Core.List.{List}
use lib.Dec.{eqb}
use lib.ListN.{length, get_or, take, drop, take-append-drop, length-take}
use lib.Seq.{length-take-le, get_or-take}
use Rattle.std.proofs.Common.{Result, Ok, Err}
use borrow.Author.Tests.{not-true, eqb-true, eqb-false}
use Rattle.codec.specs.Bytes.{part}
use Rattle.codec.specs.Choice.{pick}
use Rattle.codec.proofs.Parts.{part_left, length_part}
use Rattle.units.specs.declared.Answer.{Answer}
use Rattle.units.specs.declared.LogPosition.{LogPosition}
use Rattle.index_file.specs.Room.{IndexSized}
use Rattle.index_file.specs.Items.{any_bad_slot}
use Rattle.index_file.proofs.Items.{checked_room, good_slots_stay, good_slots_part}
use Rattle.machine.specs.Steps.{moved}
use Rattle.dispatch_request.specs.declared.DispatchRequest.{DispatchRequest}
use Rattle.dispatch_request.specs.declared.TheConstants.DispatchRequest.{NONE}
use Rattle.dispatch_request.specs.Request.{View, request}
use Rattle.dispatch_request.proofs.Standing.{blank_found}
use Rattle.dispatch_step.specs.declared.Sizes.{Sizes}
use Rattle.dispatch_step.specs.declared.Progress.{Progress}
use Rattle.dispatch_step.specs.Step.{Fixed, State, state_of, written, filed, moved_by, step_as, stands_here, step_of}
use Rattle.dispatch_step.specs.Filing.{Fileable, Did}
use Rattle.dispatch_step.specs.Door.{Admitted}
use Rattle.dispatch_step.proofs.Filing.{did_move, did_stop}
use Rattle.dispatch_step.proofs.Moves.{filed_moved, step_filed}
use Rattle.dispatch_step.proofs.StepKeeps.{Going, going_start, going_step}
use Rattle.dispatch_step.proofs.Fits.{request_fits}
use Rattle.dispatch_ahead.specs.declared.Batch.{Batch}
use Rattle.dispatch_ahead.specs.declared.Behind.{Behind}
use Rattle.dispatch_ahead.specs.declared.Behind.TheVariants as behinds
use Rattle.dispatch_ahead.specs.declared.Ended.TheVariants as ends
use Rattle.dispatch_ahead.specs.declared.Advanced.{Advanced}
use Rattle.dispatch_ahead.specs.Ahead.{stands_in, stands_total, stands_hashes, behind, items_before, Kept, BehindIs, Batched, pass_by, Ends, Advances}
use Rattle.dispatch_ahead.proofs.Reading.{items_grow}

-- ---- the loop

-- the first `done` of the records read ahead from p are filed, and the slots of them all are good if that was found
pub record Advancing (f : Fixed) (v : View) (p : LogPosition) (b : Batch) (list : List ℕ) (good : Bool) (most : ℕ) (s t : State) (first done : ℕ) : Type 0 where
  pub few : done ≤ b.records
  pub place : t.progress.position ≡ behind f v p done
  pub start : first ≡ items_before f v p done
  pub going : Going f v s t done most
  pub sound : good ≡ true → any_bad_slot f.sizes.index.slot_count t.index (take b.items list) ≡ false

pub advancing_start : (f : Fixed) (v : View) (b : Batch) (list : List ℕ) (most : ℕ) (s : State) {good bad : Bool} → Admitted f v s
    → bad ≡ any_bad_slot f.sizes.index.slot_count s.index (take b.items list) → good ≡ not bad
    → Advancing f v s.progress.position b list good most s s 0 0
unfolding behind items_before
advancing_start f v b list most s {good} {bad} h e n =
    record {
      few = omega arith;
      place = refl;
      start = refl;
      going = going_start f v s most h;
      sound = λ (g : good ≡ true). sym e ∙ not-true bad (sym n ∙ g);
    }

part_front : (n at i : ℕ) (l : List ℕ) → at + n ≤ i → i ≤ length l → part n at (take i l) ≡ part n at l
part_front n at i l h k = sym (part_left n at (take i l) (drop i l) (rw (length-take i l) (omega arith))) ∙ ap (part n at) (take-append-drop i l)

-- slots that were good are good behind a record
good_kept : (z : Sizes) (q : DispatchRequest) (hs : List ℕ) (s t : State) (l : List ℕ) → IndexSized z.index.slot_count z.index.item_count s.index
    → filed z q hs s ≡ moved t → any_bad_slot z.index.slot_count s.index l ≡ false → any_bad_slot z.index.slot_count t.index l ≡ false
unfolding written
good_kept z q hs s t l d e g =
    let w = filed_moved z q hs s t e in
    rw w.left
    (good_slots_stay z.index.slot_count z.index.item_count s.index l hs s.progress.position.0 q.store_time
    (checked_room z.index.slot_count z.index.item_count s.index s.progress.position.0 hs d w.checked) g)

-- one turn, with the next of the requests that were kept
module _ (f : Fixed) (v : View) (p : LogPosition) (most : ℕ) (b : Batch) (requests : List DispatchRequest) (list : List ℕ) (h : Batched f v p most b requests list) (good : Bool) (s t : State)
    (first done : ℕ) (a : Advancing f v p b list good most s t first done) (more : done < length (take b.records requests)) where
  abbrev q : DispatchRequest
  q = get_or (take b.records requests) done NONE

  abbrev hs : List ℕ
  hs = stands_hashes (stands_in f v (behind f v p done))

  next : done < b.records
  next = let n = length-take-le b.records requests h.few in omega arith

  kept : Kept f v p done q list
  kept = rw (get_or-take b.records requests done NONE next) (h.kept done next)

  here : stands_here f v t ≡ request q hs
  here = rw a.place kept.next

  ends_at : items_before f v p (suc done) ≡ first + q.items
  unfolding items_before
  ends_at = rw (kept.number, a.start)

  pub turn_end : first + q.items ≤ length list
  turn_end = omega (arith, ends_at, kept.within)

  turn_items : first + q.items ≤ b.items
  turn_items = omega (arith, ends_at, h.counted, items_grow f v p b.records done next)

  lent : take (first + q.items - first) (drop first list) ≡ part q.items first list
  unfolding part
  lent = let n : first + q.items - first ≡ q.items = omega arith in rw n

  listed : take (first + q.items - first) (drop first list) ≡ hs
  listed = lent ∙ rw a.start kept.listed

  good_part : good ≡ true → any_bad_slot f.sizes.index.slot_count t.index (part q.items first list) ≡ false
  good_part g =
      subst (λ (l : List ℕ). any_bad_slot f.sizes.index.slot_count t.index l ≡ false) (part_front q.items first b.items list turn_items h.fits)
      (good_slots_part f.sizes.index.slot_count t.index (take b.items list) q.items first (a.sound g))

  pub turn_fileable : length list ≤ 16385 → Fileable f.sizes q (take (first + q.items - first) (drop first list)) good t
  turn_fileable few =
      let y = a.going.sound.ready in
      let r = request_fits f v t q hs a.going.sound here in
      rw lent
      (record {
        entries = y.entries;
        counted = y.counted;
        sized = y.sized;
        most = r.most;
        low = r.low;
        row = r.row;
        region = r.region;
        few = rw (length_part q.items first list turn_end) (omega (arith, turn_end));
        good = good_part;
      })

  module _ (r : Result Progress Answer) (counts queues index : List ℕ)
      (d : Did (filed f.sizes q (take (first + q.items - first) (drop first list)) t) t r counts queues index) where
    done_as : Did (filed f.sizes q hs t) t r counts queues index
    done_as = rw listed at d

    pub turn_on : {now : Progress} → r ≡ Ok now → Advancing f v p b list good most s (state_of now counts queues index) (first + q.items) (done + 1)
    unfolding behind stands_total written
    turn_on {now} m =
        let u = state_of now counts queues index in
        let k = did_move (filed f.sizes q hs t) done_as m in
        let w = filed_moved f.sizes q hs t u k in
        let z : now.position ≡ record { 0 = t.progress.position.0 + q.total } = ap (λ (x : State). x.progress.position) w.left in
        record {
          few = omega (arith, next);
          place = rw (add-one, kept.next, ← a.place) z;
          start = rw add-one (sym ends_at);
          going = going_step f v s most t done a.going (step_filed f v t q hs here ∙ k) (omega (arith, next, h.under));
          sound = λ (g : good ≡ true). good_kept f.sizes q hs t u (take b.items list) a.going.sound.ready.sized k (a.sound g);
        }

    -- a rule stops it: nothing of it stands
    pub turn_off : {x : Answer} (n : ℕ) → r ≡ Err x
        → Advances f v most n s (record { progress = t.progress; steps = done; ended = ends.Stopped x }) (state_of t.progress counts queues index)
    unfolding Ends
    turn_off n m =
        let k = did_stop (filed f.sizes q hs t) done_as m in
        rw k.still
        (record {
          walked = a.going.walked;
          within = a.going.within;
          ends = (omega (arith, next, h.under), step_filed f v t q hs here ∙ k.rule);
        })

-- ---- behind the records

module _ (f : Fixed) (v : View) (p : LogPosition) (most : ℕ) (b : Batch) (requests : List DispatchRequest) (list : List ℕ) (h : Batched f v p most b requests list) (good : Bool) (s t : State)
    (first done : ℕ) (a : Advancing f v p b list good most s t first done) (over : length (take b.records requests) ≤ done) where
  all : done ≡ b.records
  all = let n = length-take-le b.records requests h.few in omega (arith, a.few)

  at_end : stands_here f v t ≡ stands_in f v (behind f v p b.records)
  at_end = rw (a.place, all)

  pub pass_low : (n : ℕ) → b.behind ≡ behinds.Blank n → t.progress.position.0 + n ≤ v.end.0
  unfolding BehindIs
  pass_low n e =
      let w = subst (BehindIs (stands_in f v (behind f v p b.records)) b.items (length list)) e h.behind_is in
      (blank_found f.directory f.sizes.geometry v t.progress.position n (at_end ∙ w)).1

  passed_on : (x : Behind) → x ≡ b.behind → Advances f v most (length list) s (pass_by t.progress done x) (state_of (pass_by t.progress done x).progress t.counts t.queues t.index)
  unfolding pass_by Ends BehindIs step_of step_as moved_by items_before pick
  passed_on behinds.Unread e =
      record { walked = a.going.walked; within = a.going.within; ends = λ (m : 0 < most). omega (arith, all, h.some (sym e) m) }
  passed_on (behinds.Stop c) e =
      let w = subst (BehindIs (stands_in f v (behind f v p b.records)) b.items (length list)) (sym e) h.behind_is in
      let l = h.left_off (λ (g : b.behind ≡ behinds.Unread). let z : ◌≡◌ {A = ℕ} 0 1 = cc (e, g) in omega arith) in
      record { walked = a.going.walked; within = a.going.within; ends = (omega (arith, all, l), rw (at_end, w)) }
  passed_on (behinds.Blank n) e =
      let w = subst (BehindIs (stands_in f v (behind f v p b.records)) b.items (length list)) (sym e) h.behind_is in
      let l = h.left_off (λ (g : b.behind ≡ behinds.Unread). let z : ◌≡◌ {A = ℕ} 0 1 = cc (e, g) in omega arith) in
      let k : step_of f v t ≡ moved (moved_by n t) = rw (at_end, w) in
      let g = going_step f v s most t done a.going k (omega (arith, all, l)) in
      record { walked = g.walked; within = g.within; ends = λ (m : 0 < most). omega arith }
  passed_on behinds.Long e = go (eqb done 0) refl
    where
      w : length list < b.items + length (stands_hashes (stands_in f v (behind f v p b.records)))
      w = subst (BehindIs (stands_in f v (behind f v p b.records)) b.items (length list)) (sym e) h.behind_is

      none : (n : ℕ) → done ≡ n → n ≡ 0 → b.items ≡ 0
      none zero k z = h.counted ∙ rw (← all, k)
      none (suc n) k z = absurd (omega arith)

      go : (c : Bool) → eqb done 0 ≡ c
          → Advances f v most (length list) s (pick c (record { progress = t.progress; steps = done; ended = ends.Long }) (record { progress = t.progress; steps = done; ended = ends.Going }))
          (state_of (pick {A = Advanced} c (record { progress = t.progress; steps = done; ended = ends.Long }) (record { progress = t.progress; steps = done; ended = ends.Going })).progress t.counts t.queues t.index)
      go true z = record { walked = a.going.walked; within = a.going.within; ends = rw at_end (omega (arith, w, none done refl (eqb-true done 0 z))) }
      go false z = record { walked = a.going.walked; within = a.going.within; ends = λ (m : 0 < most). let n = eqb-false done 0 z in omega arith }

  pub passed : {r : Advanced} (n : ℕ) → length list ≡ n → r ≡ pass_by t.progress b.records b.behind
      → Advances f v most n s r (state_of r.progress t.counts t.queues t.index)
  passed n l g = rw (g, ← all, ← l) (passed_on b.behind refl)
