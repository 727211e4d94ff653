-- A record's items, put with the header behind: written once at the end, it is the header of the puts one by one. Assumes nothing.
use Prim.Native.Nat.{ℕ, ◌+◌, ◌*◌, ◌≤◌, ◌<◌}
use mathlib.Core.Path.{◌≡◌, refl, sym, ap, ◌∙◌}
use mathlib.Core.Bool.{Bool, true, false}
use mathlib.Core.List.{List, [], ◌∷◌}
use native.Mathlib.Omega.{arith}
use lib.Dec.{leb, eqb}
use lib.ListN.{length, get_or}
use borrow.Author.Tests.{leb-true, eqb-true, eqb-false, ne_eqb}
use Rattle.codec.specs.Bytes.{big, bytes_of}
use Rattle.codec.specs.Choice.{pick}
use Rattle.codec.proofs.Numbers.{length_bytes}
use Rattle.codec.proofs.Parts.{overwrite_comm}
use Rattle.java_hash.specs.Hash.{slot_of}
use Rattle.units.specs.declared.LogPosition.{LogPosition}
use Rattle.index_file.specs.Index.{store, first_time, filled_slots, used_count, slot_at, slot_value, item_at, seconds_of, filled_after, put}
use Rattle.index_file.specs.Items.{put_all}
use Rattle.index_file.specs.Room.{Room}
use Rattle.index_file.specs.Inner.{seconds_after, with_header, with_item, Entered}
use Rattle.index_file.proofs.Stores.{kept_after, store_twice, store_first}
use Rattle.index_file.proofs.Puts.{length_entry, put_is, header_after_is, used_put, filled_put, seconds_put}
use Rattle.index_file.proofs.Listed.{Puts, puts_start, puts_item, puts_on, puts_end}

-- ---- header and item

-- a header over a header, each brought into the order of places: the first fields are the first one's
module _ (position time used filled used' filled' : ℕ) (l : List ℕ) where
  header_over : (fresh : Bool) → with_header false used' filled' position time (with_header fresh used filled position time l) ≡ with_header fresh used' filled' position time l
  unfolding with_header pick
  header_over true = simp (store_twice, store_first 8 0, store_first 8 8, store_first 8 16, store_first 8 24, store_first 4 32)
  header_over false = simp (store_twice, store_first 8 8, store_first 8 24, store_first 4 32)

module _ (k u hash : ℕ) (position : LogPosition) (seconds : ℕ) where
  -- a number below the slots may be stored before the item or after it
  item_low : (w at v : ℕ) (l : List ℕ) → leb (at + w) 40 ≡ true → store w at v (with_item k u hash position seconds l) ≡ with_item k u hash position seconds (store w at v l)
  unfolding with_item
  item_low w at v l h =
      let e : length (bytes_of big w v) ≡ w = length_bytes big w v in
      let i = leb-true (at + w) 40 h in
      overwrite_comm _ at (bytes_of big w v) (slot_at (slot_of k hash)) _ (rw e (omega arith))
      ∙ rw (kept_after w at v l 4 (slot_at (slot_of k hash)) (omega arith))
      (ap (store 4 (slot_at (slot_of k hash)) u) (overwrite_comm l at (bytes_of big w v) (item_at k u) _ (rw e (omega arith))))

  header_item : (used filled last time : ℕ) (l : List ℕ) (fresh : Bool)
      → with_header fresh used filled last time (with_item k u hash position seconds l) ≡ with_item k u hash position seconds (with_header fresh used filled last time l)
  unfolding with_header pick
  header_item used filled last time l true = simp item_low
  header_item used filled last time l false = simp item_low

-- an item over an index whose header is behind from the second item on, and over the same with its header written
module _ (k u hash : ℕ) (position : LogPosition) (time filled : ℕ) (l : List ℕ) (fresh : Bool) where
  slot_behind : (z : Bool) → slot_value (pick z l (with_header fresh u filled position.0 time l)) (slot_of k hash) ≡ slot_value l (slot_of k hash)
  unfolding pick
  slot_behind true = refl
  slot_behind false = header_after_is u filled position.0 time l fresh 4 (slot_at (slot_of k hash)) (omega arith)

  put_behind : (seconds more : ℕ) (z : Bool) → (z ≡ true → eqb u 1 ≡ fresh) → (z ≡ false → eqb u 1 ≡ false)
      → with_header (eqb u 1) (u + 1) more position.0 time (with_item k u hash position seconds (pick z l (with_header fresh u filled position.0 time l)))
      ≡ with_header fresh (u + 1) more position.0 time (with_item k u hash position seconds l)
  unfolding pick
  put_behind seconds more true e f = rw (e refl)
  put_behind seconds more false e f =
      rw (f refl, ← header_item k u hash position seconds u filled position.0 time l fresh) (header_over position.0 time u filled (u + 1) more _ fresh)

-- ---- the loop: putting what is left from `now` on gives the whole, and `now` is the index with its header written

pub record Heads (k N : ℕ) (position : LogPosition) (time : ℕ) (list whole : List ℕ) (first : ℕ) (l : List ℕ) (used filled seconds i : ℕ) : Type 0 where
  pub now : List ℕ
  pub puts : Puts k N position.0 time list whole now i
  pub long : length l ≡ 40 + 4 * k + 20 * N
  pub count : used ≡ used_count now
  pub fill : filled ≡ filled_slots now
  pub passed : seconds ≡ seconds_of (first_time now) time
  pub some : 1 ≤ first
  pub turns : used ≡ first + i
  pub stands : now ≡ pick (eqb i 0) l (with_header (eqb first 1) used filled position.0 time l)

pub put_none : (k position time : ℕ) (list l : List ℕ) → length list ≡ 0 → l ≡ put_all k position time list l
unfolding put_all
put_none k position time [] l e = refl
put_none k position time (h ∷ hs) l e = absurd (omega arith)

module _ (k N : ℕ) (position : LogPosition) (time : ℕ) (list : List ℕ) where
  pub heads_start : (l : List ℕ) {first first_time_is filled seconds : ℕ} → Room k N l (length list) → first ≡ used_count l → first_time_is ≡ first_time l → filled ≡ filled_slots l → seconds ≡ seconds_of first_time_is time
      → Heads k N position time list (put_all k position.0 time list l) first l first filled seconds 0
  unfolding pick
  heads_start l r eu et ef es =
      record {
        now = l;
        puts = puts_start k N position.0 time list l r;
        long = r.long;
        count = eu;
        fill = ef;
        passed = es ∙ rw et;
        some = omega arith;
        turns = omega arith;
        stands = refl;
      }

  module _ (whole : List ℕ) (first : ℕ) (l : List ℕ) (used filled seconds i : ℕ) (g : Heads k N position time list whole first l used filled seconds i) where
    -- the header is written
    pub heads_end : {r : List ℕ} → (length list ≡ 0 → ⊥) → length list ≤ i → r ≡ with_header (eqb first 1) used filled position.0 time l → r ≡ whole
    unfolding pick
    heads_end z h e = e ∙ sym (g.stands ∙ rw (ne_eqb i 0 (λ y. z (omega arith)))) ∙ puts_end k N position.0 time list whole g.now i g.puts h

    module _ (h : i < length list) where
      abbrev hash : ℕ
      hash = get_or list i 0

      room : Room k N g.now 1
      room = puts_item k N position.0 time list whole g.now i g.puts h

      same_slot : slot_value g.now (slot_of k hash) ≡ slot_value l (slot_of k hash)
      same_slot = rw g.stands (slot_behind k used hash position time filled l (eqb first 1) (eqb i 0))

      same_put : put k hash position.0 time g.now
          ≡ with_header (eqb first 1) (used + 1) (filled_after filled (slot_value l (slot_of k hash))) position.0 time (with_item k used hash position seconds l)
      same_put =
          rw (put_is k hash position.0 time g.now, ← g.count, ← g.fill, ← g.passed, same_slot, g.stands)
          (put_behind k used hash position time filled l (eqb first 1) seconds _ (eqb i 0) (λ e. start (eqb-true i 0 e)) (λ e. later (eqb-false i 0 e)))
        where
          start : i ≡ 0 → eqb used 1 ≡ eqb first 1
          start e = let y : used ≡ first = omega (arith, g.turns) in rw y

          later : (i ≡ 0 → ⊥) → eqb used 1 ≡ false
          later e = ne_eqb used 1 (λ y. e (omega (arith, g.some, g.turns)))

      pub heads_on : time < 18446744073709551616 → {previous more next : ℕ} {m : List ℕ} → Entered k used hash position seconds l previous m
          → more ≡ filled_after filled previous → next ≡ seconds_after used seconds → Heads k N position time list whole first m (used + 1) more next (i + 1)
      unfolding pick
      heads_on small en em es =
          record {
            now = put k hash position.0 time g.now;
            puts = puts_on k N position.0 time list whole g.now i g.puts h refl;
            long = ap length en.stands ∙ length_entry k used hash position seconds l ∙ g.long;
            count = omega (arith, g.count, used_put k N hash position.0 time g.now room);
            fill = cc (en.previous, g.fill, same_slot, filled_put k N hash position.0 time g.now room);
            passed = cc (g.count, g.passed, seconds_put k N hash position.0 time g.now room small);
            some = g.some;
            turns = omega (arith, g.turns);
            stands = rw (ne_eqb (i + 1) 0 (λ y. omega arith)) (cc (same_put, en.previous, en.stands));
          }
