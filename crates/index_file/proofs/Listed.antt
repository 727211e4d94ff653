-- A record's items in a list, judged and put one by one. Assumes nothing.
use Prim.Native.Nat.{ℕ, suc, ◌+◌, ◌-◌, ◌≤◌, ◌<◌}
use mathlib.Core.Path.{◌≡◌, refl}
use mathlib.Core.Bool.{Bool, true, false, ◌||◌}
use mathlib.Core.List.{List}
use native.Mathlib.Omega.{arith}
use native.Mathlib.Numerals.{add-one}
use lib.ListN.{length, get_or, drop, drop_of_length-le}
use lib.Seq.{drop-cons}
use Rattle.index_file.specs.Index.{put}
use Rattle.index_file.specs.Items.{bad_slot, any_bad_slot, put_all}
use Rattle.index_file.specs.Room.{Room}
use Rattle.index_file.proofs.Items.{room_one, room_less}

-- ---- the slots: those read and those left decide

pub Judges : ℕ → List ℕ → List ℕ → Bool → ℕ → Type 0
Judges k l list bad i = (bad || any_bad_slot k l (drop i list)) ≡ any_bad_slot k l list

module _ (k : ℕ) (l list : List ℕ) where
  pub judges_start : Judges k l list false 0
  unfolding Judges
  judges_start = refl

  module _ (bad : Bool) (i : ℕ) (g : Judges k l list bad i) where
    pub judges_end : length list ≤ i → bad ≡ any_bad_slot k l list
    unfolding Judges any_bad_slot
    judges_end h = go bad (rw (drop_of_length-le list h) at g)
      where
        go : (b : Bool) → (b || false) ≡ any_bad_slot k l list → b ≡ any_bad_slot k l list
        go true e = e
        go false e = e

    pub judges_on : i < length list → {r : Bool} → r ≡ bad_slot k l (get_or list i 0) → Judges k l list (bad || r) (i + 1)
    unfolding Judges any_bad_slot
    judges_on h {r} e = rw (add-one i, e) (go bad (rw (drop-cons list i 0 h) at g))
      where
        go : (b : Bool) → (b || (bad_slot k l (get_or list i 0) || any_bad_slot k l (drop (suc i) list))) ≡ any_bad_slot k l list
            → ((b || bad_slot k l (get_or list i 0)) || any_bad_slot k l (drop (suc i) list)) ≡ any_bad_slot k l list
        go true e = e
        go false e = e

-- ---- the puts: putting what is left gives the whole

pub record Puts (k n position time : ℕ) (list whole l : List ℕ) (i : ℕ) : Type 0 where
  pub room : Room k n l (length list - i)
  pub rest : put_all k position time (drop i list) l ≡ whole

module _ (k n position time : ℕ) (list : List ℕ) where
  pub puts_start : (l : List ℕ) → Room k n l (length list) → Puts k n position time list (put_all k position time list l) l 0
  puts_start l r = let e : length list - 0 ≡ length list = omega arith in record { room = rw e r; rest = refl }

  module _ (whole l : List ℕ) (i : ℕ) (g : Puts k n position time list whole l i) where
    pub puts_end : length list ≤ i → l ≡ whole
    unfolding put_all
    puts_end h = rw (drop_of_length-le list h) at g.rest

    module _ (h : i < length list) where
      room_next : Room k n l (suc (length list - (i + 1)))
      room_next = let e : length list - i ≡ suc (length list - (i + 1)) = omega arith in rw e at g.room

      pub puts_item : Room k n l 1
      puts_item = room_one k n l (length list - (i + 1)) room_next

      pub puts_on : {next : List ℕ} → next ≡ put k (get_or list i 0) position time l → Puts k n position time list whole next (i + 1)
      unfolding put_all
      puts_on e =
          record {
            room = rw e (room_less k n position time l (length list - (i + 1)) (get_or list i 0) room_next);
            rest = rw (e, add-one i) (rw (drop-cons list i 0 h) at g.rest);
          }
