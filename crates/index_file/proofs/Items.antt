-- A record's items: the slots that they need, the puts, and rule 7's answer. Assumes nothing.
use Prim.Native.Nat.{ℕ, suc, ◌+◌, ◌≤◌, ◌<◌}
use mathlib.Core.Path.{◌≡◌, refl, sym, ◌∙◌}
use mathlib.Core.Bool.{Bool, true, false, ◌&&◌, ◌||◌}
use mathlib.Core.List.{List, [], ◌∷◌, ◌++◌}
use native.Mathlib.Omega.{arith}
use native.Mathlib.Nat.{zero-add, add-zero, suc-add}
use lib.Dec.{leb, ltb, eqb}
use lib.ListN.{length, take, drop, take-append-drop}
use borrow.Author.Tests.{lt-leb, ltb-false, leb-false, eqb-true, eqb-false}
use Rattle.codec.specs.Bytes.{big, part, field}
use Rattle.codec.specs.Choice.{pick}
use Rattle.codec.proofs.Choices.{neither}
use Rattle.java_hash.specs.Hash.{slot_of}
use Rattle.java_hash.proofs.HashLaws.{slot_within}
use Rattle.units.specs.declared.Answer.TheVariants.{Done, IndexFull, IndexAhead, ChainBroken}
use Rattle.index_file.specs.Index.{last_position, filled_slots, used_count, slot_at, slot_value, filled_after, put}
use Rattle.index_file.specs.Items.{is_ahead, is_full, bad_slot, any_bad_slot, items_answer, put_all}
use Rattle.index_file.specs.Room.{Room}
use Rattle.index_file.specs.Claims.{CheckedRoom, PutAllSized, GoodSlotsStay, GoodSlotsPart}
use Rattle.index_file.proofs.Puts.{length_put, used_put, filled_put, slot_same, slot_other}

-- ---- the puts

-- room for some is room for one
pub room_one : (k n : ℕ) (l : List ℕ) (items : ℕ) → Room k n l (suc items) → Room k n l 1
room_one k n l items r =
    record { some = r.some; most = r.most; few = r.few; long = r.long; count = (let a = r.count in omega arith); fill = r.fill }

module _ (k n position time : ℕ) where
  -- a put keeps the room, less one
  pub room_less : (l : List ℕ) (items h : ℕ) → Room k n l (suc items) → Room k n (put k h position time l) items
  unfolding filled_after pick
  room_less l items h r =
      let one = room_one k n l items r in
      let u = used_put k n h position time l one in
      record {
        some = r.some;
        most = r.most;
        few = r.few;
        long = length_put k n h position time l one ∙ r.long;
        count = rw u (let a = r.count in omega arith);
        fill = rw (u, filled_put k n h position time l one) (go (eqb (slot_value l (slot_of k h)) 0) r.fill);
      }
    where
      go : (b : Bool) → filled_slots l < used_count l → filled_slots l + pick b 1 0 < suc (used_count l)
      go true a = omega arith
      go false a = omega arith

  pub put_append : (a b l : List ℕ) → put_all k position time (a ++ b) l ≡ put_all k position time b (put_all k position time a l)
  unfolding put_all
  put_append [] b l = refl
  put_append (h ∷ a) b l = put_append a b (put k h position time l)

  pub room_after : (hs : List ℕ) (l : List ℕ) (items : ℕ) → Room k n l (length hs + items) → Room k n (put_all k position time hs l) items
  unfolding put_all
  room_after [] l items r = rw zero-add at r
  room_after (h ∷ hs) l items r = room_after hs (put k h position time l) items (room_less l (length hs + items) h (rw suc-add at r))

-- ---- the answer

pub slot_judged : {used at v : ℕ} (k hash : ℕ) (l : List ℕ) → used ≡ used_count l → at ≡ slot_at (slot_of k hash) → v ≡ field big 4 at l → leb used v ≡ bad_slot k l hash
unfolding bad_slot
slot_judged k hash l eu ea ev = rw (eu, ev, ea)

pub ahead_judged : {used last : ℕ} (l : List ℕ) (position : ℕ) → used ≡ used_count l → last ≡ last_position l → (ltb 1 used && leb position last) ≡ is_ahead l position
unfolding is_ahead
ahead_judged l position eu el = rw (eu, el)

pub full_judged : {used : ℕ} (n : ℕ) (l : List ℕ) (items : ℕ) → used ≡ used_count l → ltb n (used + items) ≡ is_full n l items
unfolding is_full
full_judged n l items eu = rw eu

module _ (k n : ℕ) (l : List ℕ) (position : ℕ) (hs : List ℕ) where
  module _ {z : Bool} (ez : z ≡ eqb (length hs) 0) where
    pub answer_none : z ≡ true → Done ≡ items_answer k n l position hs
    unfolding items_answer pick
    answer_none h = rw (← ez, h)

    module _ (some : z ≡ false) where
      pub answer_ahead : {a : Bool} → a ≡ is_ahead l position → a ≡ true → IndexAhead ≡ items_answer k n l position hs
      unfolding items_answer pick
      answer_ahead ea h = rw (← ez, some, ← ea, h)

      module _ {a : Bool} (ea : a ≡ is_ahead l position) (behind : a ≡ false) where
        pub answer_full : {f : Bool} → f ≡ is_full n l (length hs) → f ≡ true → IndexFull ≡ items_answer k n l position hs
        unfolding items_answer pick
        answer_full ef h = rw (← ez, some, ← ea, behind, ← ef, h)

        module _ {f : Bool} (ef : f ≡ is_full n l (length hs)) (room : f ≡ false) {b : Bool} (eb : b ≡ any_bad_slot k l hs) where
          pub answer_bad : b ≡ true → ChainBroken ≡ items_answer k n l position hs
          unfolding items_answer pick
          answer_bad h = rw (← ez, some, ← ea, behind, ← ef, room, ← eb, h)

          pub answer_fine : b ≡ false → Done ≡ items_answer k n l position hs
          unfolding items_answer pick
          answer_fine h = rw (← ez, some, ← ea, behind, ← ef, room, ← eb, h)

pub checked_room : CheckedRoom
unfolding items_answer is_full pick
checked_room k n l position hs s h =
    record {
      some = s.some;
      most = s.most;
      few = s.few;
      long = s.long;
      count = go (eqb (length hs) 0) refl (is_ahead l position) (ltb n (used_count l + length hs)) refl (any_bad_slot k l hs) h;
      fill = s.fill;
    }
  where
    go : (z : Bool) → eqb (length hs) 0 ≡ z → (a f : Bool) → ltb n (used_count l + length hs) ≡ f → (b : Bool)
        → pick z Done (pick a IndexAhead (pick f IndexFull (pick b ChainBroken Done))) ≡ Done → used_count l + length hs ≤ n
    go true e a f g b w = let i = eqb-true (length hs) 0 e in let c = s.count in omega arith
    go false e true f g b w = let o : ◌≡◌ {A = ℕ} 0 1 = cc in absurd (omega arith)
    go false e false true g b w = let o : ◌≡◌ {A = ℕ} 0 1 = cc in absurd (omega arith)
    go false e false false g b w = ltb-false n (used_count l + length hs) g

pub put_all_sized : PutAllSized
put_all_sized k n position time hs l r = room_after k n position time hs l 0 (rw add-zero r)

-- ---- slots that are good

module _ (k n position time : ℕ) where
  -- a put changes one slot, which takes the used count
  slot_below : (l : List ℕ) (g t : ℕ) → Room k n l 1 → t < k → slot_value l t < used_count l → slot_value (put k g position time l) t ≤ used_count l
  slot_below l g t r in-slots below = go (eqb t (slot_of k g)) refl
    where
      go : (b : Bool) → eqb t (slot_of k g) ≡ b → slot_value (put k g position time l) t ≤ used_count l
      go true e = rw (eqb-true t (slot_of k g) e, slot_same k n g position time l r) (omega arith)
      go false e = rw (slot_other k n g position time l r t in-slots (eqb-false t (slot_of k g) e)) (omega arith)

  good_put : (l : List ℕ) (g h : ℕ) → Room k n l 1 → bad_slot k l h ≡ false → bad_slot k (put k g position time l) h ≡ false
  unfolding bad_slot
  good_put l g h r e =
      let a = slot_below l g (slot_of k h) r (slot_within k h r.some) (leb-false (used_count l) (slot_value l (slot_of k h)) e) in
      rw (used_put k n g position time l r) (lt-leb (suc (used_count l)) (slot_value (put k g position time l) (slot_of k h)) (omega arith))

  good_puts : (l hs : List ℕ) (g : ℕ) → Room k n l 1 → any_bad_slot k l hs ≡ false → any_bad_slot k (put k g position time l) hs ≡ false
  unfolding any_bad_slot
  good_puts l [] g r e = e
  good_puts l (h ∷ hs) g r e =
      let a = neither (bad_slot k l h) (any_bad_slot k l hs) e in
      rw (good_put l g h r a.0, good_puts l hs g r a.1)

pub good_slots_stay : GoodSlotsStay
unfolding put_all
good_slots_stay k n l hs [] position time r e = e
good_slots_stay k n l hs (g ∷ gs) position time r e =
    good_slots_stay k n (put k g position time l) hs gs position time (room_less k n position time l (length gs) g r) (good_puts k n position time l hs g (room_one k n l (length gs) r) e)

module _ (k : ℕ) (l : List ℕ) where
  bad_append : (a b : List ℕ) → any_bad_slot k l (a ++ b) ≡ (any_bad_slot k l a || any_bad_slot k l b)
  unfolding any_bad_slot
  bad_append [] b = refl
  bad_append (h ∷ a) b = rw (bad_append a b) (go (bad_slot k l h))
    where
      go : (t : Bool) → (t || (any_bad_slot k l a || any_bad_slot k l b)) ≡ ((t || any_bad_slot k l a) || any_bad_slot k l b)
      go true = refl
      go false = refl

  good_ends : (i : ℕ) (hs : List ℕ) → any_bad_slot k l hs ≡ false → (any_bad_slot k l (take i hs) ≡ false) × (any_bad_slot k l (drop i hs) ≡ false)
  good_ends i hs e =
      neither (any_bad_slot k l (take i hs)) (any_bad_slot k l (drop i hs)) (sym (bad_append (take i hs) (drop i hs)) ∙ rw (take-append-drop i hs) e)

pub good_slots_part : GoodSlotsPart
unfolding part
good_slots_part k l hs w at e = (good_ends k l w (drop at hs) (good_ends k l at hs e).1).0
