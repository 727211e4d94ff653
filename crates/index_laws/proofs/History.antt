-- What holds of an index that puts have built from empty. Assumes nothing.
use Prim.Native.Nat.{ℕ, zero, suc, ◌+◌, ◌*◌, ◌-◌, ◌/◌, ◌≤◌, ◌<◌, min, zero-le}
use mathlib.Core.Path.{◌≡◌, refl, sym, ap, subst, ◌∙◌}
use mathlib.Core.Bool.{Bool, true, false}
use mathlib.Core.List.{List, [], ◌∷◌}
use mathlib.Core.Logic.{⊎_elim}
use native.Mathlib.Omega.{arith}
use lib.Dec.{eqb, eqb-suc-suc, eqb-suc-zero}
use native.Mathlib.Nat.{zero-mul}
use lib.ListN.{length, take, drop, replicate, length-replicate}
use borrow.Author.Tests.{eqb-true, eqb-false, lt-ltb}
use Rattle.codec.specs.Bytes.{big, value_of, part, field}
use Rattle.codec.specs.Choice.{pick}
use Rattle.codec.specs.Lists.{All}
use Rattle.codec.proofs.Parts.{length_overwrite}
use Rattle.java_hash.specs.Hash.{slot_of}
use Rattle.java_hash.proofs.HashLaws.{slot_within}
use Rattle.index_file.specs.declared.Item.{Item}
use Rattle.index_file.specs.Index.{used_count, first_time, untouched, slot_value, item_of, seconds_of, item_for, filled_after, put}
use Rattle.index_file.specs.Items.{put_all}
use Rattle.index_laws.specs.History.{zeros, zeros_and_one, Empty, Fresh, Put, build, Fit, oldest, newest, items, item_puts}
use Rattle.index_file.specs.Room.{Room}
use Rattle.index_laws.specs.Claims.{Built, RisingTimes, BuiltCount, PutSound, PutAllSound, FreshEmpty, FreshOne, PutBuilt, FiledBuilt}
use Rattle.index_query.proofs.Walks.{undamaged}
use Rattle.index_file.proofs.Stores.{stored, kept_before, kept_after}
use Rattle.index_file.proofs.Puts.{length_put, used_put, filled_put, first_time_put, last_time_put, first_position_put, last_position_put, slot_same, slot_other, item_other, item_same}
use Rattle.index_file.proofs.Judged.{SizesIn, sizes_facts, SoundHeader, header_facts, header_sound_is}
use Rattle.index_file.proofs.Items.{room_one, room_less}
use Rattle.index_laws.proofs.Chain.{Linked, linked_cong, newest_le}

-- ---- empty

abbrev Zeros : List ℕ → Type 0
Zeros l = All (λ (b : ℕ). b ≡ 0) l

zeros_replicate : (m : ℕ) → Zeros (replicate m 0)
zeros_replicate zero = tt
zeros_replicate (suc m) = (refl, zeros_replicate m)

zeros_drop : (n : ℕ) (l : List ℕ) → Zeros l → Zeros (drop n l)
zeros_drop zero l z = z
zeros_drop (suc n) [] z = tt
zeros_drop (suc n) (b ∷ l) z = zeros_drop n l z.1

zeros_take : (n : ℕ) (l : List ℕ) → Zeros l → Zeros (take n l)
zeros_take zero l z = tt
zeros_take (suc n) [] z = tt
zeros_take (suc n) (b ∷ l) z = (z.0, zeros_take n l z.1)

value_zero : (l : List ℕ) → Zeros l → value_of big l ≡ 0
unfolding value_of
value_zero [] z = refl
value_zero (b ∷ l) z = rw (z.0, value_zero l z.1, zero-mul)

module _ (k n : ℕ) where
  pub length_zeros : length (zeros k n) ≡ 40 + 4 * k + 20 * n
  unfolding zeros
  length_zeros = length-replicate _ 0

  field_zeros : (w at : ℕ) → field big w at (zeros k n) ≡ 0
  unfolding zeros field part
  field_zeros w at = value_zero _ (zeros_take w _ (zeros_drop at _ (zeros_replicate (40 + 4 * k + 20 * n))))

pub fresh_empty : FreshEmpty
fresh_empty k n =
    record {
      long = length_zeros k n;
      count = rw (field_zeros k n 4 36);
      filled = field_zeros k n 4 32;
      first_time_is = field_zeros k n 8 0;
      last_time_is = field_zeros k n 8 8;
      first_position_is = field_zeros k n 8 16;
      last_position_is = field_zeros k n 8 24;
      slots = λ s h. field_zeros k n 4 _;
    }

pub fresh_one : FreshOne
unfolding zeros_and_one
fresh_one k n =
    record {
      long = length_overwrite _ _ _ ∙ length_zeros k n;
      count = rw (stored 4 36 1 (zeros k n) (rw length_zeros (omega arith)) (omega arith));
      filled = kept_before 4 36 1 _ 4 32 (omega arith) ∙ field_zeros k n 4 32;
      first_time_is = kept_before 4 36 1 _ 8 0 (omega arith) ∙ field_zeros k n 8 0;
      last_time_is = kept_before 4 36 1 _ 8 8 (omega arith) ∙ field_zeros k n 8 8;
      first_position_is = kept_before 4 36 1 _ 8 16 (omega arith) ∙ field_zeros k n 8 16;
      last_position_is = kept_before 4 36 1 _ 8 24 (omega arith) ∙ field_zeros k n 8 24;
      slots = λ s h. kept_after 4 36 1 _ 4 _ (omega arith) ∙ field_zeros k n 4 _;
    }

fresh : (k n : ℕ) (l : List ℕ) → Empty k n l → Fresh k n l
fresh k n l e = ⊎_elim (λ z. rw z (fresh_empty k n)) (λ z. rw z (fresh_one k n)) e

fresh_sound : (k n : ℕ) (l : List ℕ) → 2 ≤ n → Fresh k n l → SoundHeader n l
unfolding untouched
fresh_sound k n l h f =
    record {
      used = rw f.count (omega arith);
      filled = rw f.filled (omega arith);
      first_time_is = rw f.first_time_is (omega arith);
      last_time_is = rw f.last_time_is (omega arith);
      first_position_is = rw f.first_position_is (omega arith);
      last_position_is = rw f.last_position_is (omega arith);
      fresh = rw (f.count, f.first_time_is, f.last_time_is, f.first_position_is, f.last_position_is);
    }

-- ---- a put keeps the header sound

pick_le : (b : Bool) (x y m : ℕ) → x ≤ m → y ≤ m → pick b x y ≤ m
unfolding pick
pick_le true x y m h g = h
pick_le false x y m h g = g

module _ (k n hash position time : ℕ) (l : List ℕ) (r : Room k n l 1) (hp : position ≤ 1099511627776) (ht : time ≤ 281474976710655) where
  sound_put : SoundHeader n l → SoundHeader n (put k hash position time l)
  unfolding filled_after
  sound_put s =
      record {
        used = rw (used_put k n hash position time l r) (let a = r.count in omega arith);
        filled =
            rw (filled_put k n hash position time l r, used_put k n hash position time l r)
            (let a = s.filled in let b = pick_le (eqb (slot_value l (slot_of k hash)) 0) 1 0 1 (omega arith) (omega arith) in omega arith);
        first_time_is = rw (first_time_put k n hash position time l r (omega arith)) (pick_le (eqb (used_count l) 1) _ _ _ ht s.first_time_is);
        last_time_is = rw (last_time_put k n hash position time l r (omega arith)) ht;
        first_position_is = rw (first_position_put k n hash position time l r (omega arith)) (pick_le (eqb (used_count l) 1) _ _ _ hp s.first_position_is);
        last_position_is = rw (last_position_put k n hash position time l r (omega arith)) hp;
        fresh = rw (used_put k n hash position time l r, lt-ltb 1 (suc (used_count l)) (omega arith));
      }

pub put_sound : PutSound
put_sound k n hash position time l r hp ht e = header_sound_is n _ (sound_put k n hash position time l r hp ht (header_facts n l e))

pub put_all_sound : PutAllSound
unfolding put_all
put_all_sound k n position time [] l r hp ht e = e
put_all_sound k n position time (h ∷ hs) l r hp ht e =
    put_all_sound k n position time hs (put k h position time l) (room_less k n position time l (length hs) h r) hp ht
    (put_sound k n h position time l (room_one k n l (length hs) r) hp ht e)

-- ---- the index after the puts

pub length_items : (k : ℕ) (ps : List Put) → length (items k ps) ≡ length ps
unfolding items
length_items k [] = refl
length_items k (p ∷ ps) = ap suc (length_items k ps)

seconds_small : (first time : ℕ) → seconds_of first time ≤ 2147483647
unfolding seconds_of
seconds_small first time = pick_le (eqb first 0) 0 (min ((time - first) / 1000) 2147483647) 2147483647 (omega arith) (omega arith)

pub record Holds (k n : ℕ) (l : List ℕ) (ps : List Put) : Type 0 where
  pub long : length l ≡ 40 + 4 * k + 20 * n
  pub count : used_count l ≡ suc (length ps)
  pub sound : SoundHeader n l
  pub first : first_time l ≡ oldest ps
  pub slots : (s : ℕ) → s < k → slot_value l s ≡ newest k s (items k ps)
  pub chain : Linked (item_of k l) k (items k ps)

module _ (k n : ℕ) (z : SizesIn k n) where
  room_for : (l : List ℕ) (ps : List Put) → suc (length ps) < n → Holds k n l ps → Room k n l 1
  room_for l ps room g =
      record {
        some = z.some;
        most = z.most;
        few = z.few;
        long = g.long;
        count = rw g.count (omega arith);
        fill = let a = g.sound.filled in omega arith;
      }

  step : (l : List ℕ) (p : Put) (ps : List Put) → suc (length ps) < n → p.hash < 2147483648 → p.position ≤ 1099511627776 → p.time ≤ 281474976710655
      → Holds k n l ps → Holds k n (put k p.hash p.position p.time l) (p ∷ ps)
  unfolding items oldest newest item_for pick
  step l p ps room hs hp ht g =
      let r = room_for l ps room g in
      let at = g.slots (slot_of k p.hash) (slot_within k p.hash z.some) in
      record {
        long = length_put k n p.hash p.position p.time l r ∙ g.long;
        count = used_put k n p.hash p.position p.time l r ∙ ap suc g.count;
        sound = sound_put k n p.hash p.position p.time l r hp ht g.sound;
        first = first_time_put k n p.hash p.position p.time l r (omega arith) ∙ rw (g.count, eqb-suc-suc (length ps) 0, g.first);
        slots = λ s h. go s h (eqb (slot_of k p.hash) s) refl r;
        chain = (
          ap (item_of k (put k p.hash p.position p.time l)) (ap suc (length_items k ps) ∙ sym g.count)
              ∙ item_same k n p.hash p.position p.time l r
              (record {
                hash = omega arith;
                position = omega arith;
                seconds = let a = seconds_small (first_time l) p.time in omega arith;
                previous = rw at (let a = newest_le k (slot_of k p.hash) (items k ps) in let b = length_items k ps in let c = z.few in omega arith);
              })
              ∙ rw (g.first, at),
          refl,
          undamaged _ (let a = seconds_small (oldest ps) p.time in omega arith) hp,
          linked_cong (item_of k l) (item_of k (put k p.hash p.position p.time l)) k (items k ps)
              (λ v le. item_other k n p.hash p.position p.time l r v (let a = length_items k ps in rw g.count (omega arith))) g.chain,
        );
      }
    where
      go : (s : ℕ) → s < k → (b : Bool) → eqb (slot_of k p.hash) s ≡ b → Room k n l 1
          → slot_value (put k p.hash p.position p.time l) s ≡ pick b (suc (length (items k ps))) (newest k s (items k ps))
      go s h true w r = ap (slot_value (put k p.hash p.position p.time l)) (sym (eqb-true _ _ w)) ∙ slot_same k n p.hash p.position p.time l r ∙ g.count ∙ ap suc (sym (length_items k ps))
      go s h false w r = slot_other k n p.hash p.position p.time l r s h (λ e. eqb-false _ _ w (sym e)) ∙ g.slots s h

  pub holds : (l : List ℕ) (ps : List Put) → Empty k n l → length ps < n → Fit ps → Holds k n (build k l ps) ps
  unfolding build items oldest newest
  holds l [] e room fit =
      let f = fresh k n l e in
      record { long = f.long; count = f.count; sound = fresh_sound k n l z.two f; first = f.first_time_is; slots = f.slots; chain = tt }
  holds l (p ∷ ps) e room fit = step (build k l ps) p ps room fit.0 fit.1 fit.2 (holds l ps e (omega arith) fit.3)

pub built_holds : (k n : ℕ) (l : List ℕ) (ps : List Put) → Built k n l ps → Holds k n (build k l ps) ps
built_holds k n l ps b = holds k n (sizes_facts k n (length l) b.sizes).0 l ps b.empty b.room b.fit

pub built_count : BuiltCount
built_count k n l ps b = (built_holds k n l ps b).count

pub put_built : PutBuilt
unfolding put_all build item_puts
put_built k position time [] l ps = refl
put_built k position time (h ∷ hs) l ps = put_built k position time hs l (record { hash = h; position = position; time = time } ∷ ps)

length_item_puts : (position time : ℕ) (hs : List ℕ) (ps : List Put) → length (item_puts position time hs ps) ≡ length hs + length ps
unfolding item_puts
length_item_puts position time [] ps = omega arith
length_item_puts position time (h ∷ hs) ps = length_item_puts position time hs (record { hash = h; position = position; time = time } ∷ ps) ∙ omega arith

fit_item_puts : (position time : ℕ) (hs : List ℕ) (ps : List Put) → Fit ps → All (λ (h : ℕ). h < 2147483648) hs → position ≤ 1099511627776 → time ≤ 281474976710655
    → Fit (item_puts position time hs ps)
unfolding item_puts
fit_item_puts position time [] ps f a hp ht = f
fit_item_puts position time (h ∷ hs) ps f a hp ht = fit_item_puts position time hs (record { hash = h; position = position; time = time } ∷ ps) (a.0, hp, ht, f) a.1 hp ht

pub filed_built : FiledBuilt
filed_built k n l ps position time hs b r a hp ht =
    record {
      sizes = b.sizes;
      empty = b.empty;
      room = rw (length_item_puts position time hs ps) (let c = built_count k n l ps b in let d = r.count in omega arith);
      fit = fit_item_puts position time hs ps b.fit a hp ht;
    }

-- ---- times

seconds_mono : (first a b : ℕ) → a ≤ b → seconds_of first a ≤ seconds_of first b
unfolding seconds_of pick
seconds_mono first a b h = go (eqb first 0)
  where
    go : (t : Bool) → pick t 0 (min ((a - first) / 1000) 2147483647) ≤ pick t 0 (min ((b - first) / 1000) 2147483647)
    go true = omega arith
    go false = omega arith

oldest_more : (p r : Put) (ps : List Put) → oldest (p ∷ (r ∷ ps)) ≡ oldest (r ∷ ps)
unfolding oldest pick
oldest_more p r ps = rw (eqb-suc-zero (length ps)) refl

-- no item's seconds are above those of a time that is not below its own
seconds_top : (k t : ℕ) (ps : List Put) → All (λ (o : Put). o.time ≤ t) ps → All (λ (o : Item). o.seconds ≤ seconds_of (oldest ps) t) (items k ps)
unfolding items oldest seconds_of pick
seconds_top k t [] a = tt
seconds_top k t (p ∷ []) a = (zero-le, tt)
seconds_top k t (p ∷ (r ∷ ps)) a =
    subst (λ (first : ℕ). All (λ (o : Item). o.seconds ≤ seconds_of first t) (items k (p ∷ (r ∷ ps)))) (sym (oldest_more p r ps))
    (seconds_mono (oldest (r ∷ ps)) p.time t a.0, seconds_top k t (r ∷ ps) a.1)

pub rising_times : RisingTimes
unfolding items
rising_times k [] r = tt
rising_times k (p ∷ ps) r = (seconds_top k p.time ps r.0, rising_times k ps r.1)
