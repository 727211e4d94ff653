-- The directory gone through row by row: what holds at each turn. Assumes nothing.
use Prim.Native.Nat.{ℕ, suc, ◌+◌, ◌-◌, ◌≤◌, ◌<◌}
use mathlib.Core.Path.{◌≡◌, refl, sym, ap, ◌∙◌}
use mathlib.Core.Bool.{Bool, true, false, not, true≢false}
use mathlib.Core.List.{List, [], ◌∷◌, ◌++◌}
use native.Mathlib.Omega.{arith}
use lib.Dec.{eqb}
use lib.ListN.{length, get_or, take, drop, set, replicate, length-append, length-drop, length-set}
use lib.Seq.{take_all}
use borrow.Author.Tests.{eqb-true, eqb-false}
use Rattle.std.specs.Prelude.{Option, None, Some, is_some}
use Rattle.std.specs.Bool.{then_some}
use Rattle.directory.specs.Directory.{Queue, row_length, row_queue, row_ok, rows_within, row_from, distinct, queues, row_count}
use Rattle.directory.specs.Inner.{rows_of, InRows, bucket_of}
use Rattle.directory.proofs.Reading.{nothing, begins}
use Rattle.directory.proofs.Chain.{rows_empty, rows_past, split, rows_up, rows_of_is, in_rows}
use Rattle.directory.proofs.Fronts.{Onward, onward, one_more}
use Rattle.directory.proofs.Judged.{sound, none_listed, all_queues, all_listed}
use Rattle.directory.proofs.Laws.{from_none}
use Rattle.directory.proofs.Apart.{Absent, apart_more, not_again}
use Rattle.directory.proofs.Meeting.{Met, met_none, met_more}

-- ---- the rows so far

pub record Noting (l : List ℕ) (at rows : ℕ) (met : List Bool) : Type 0 where
  pub qs : List Queue
  pub within : at ≤ length l
  pub few : rows ≤ 16
  pub made : rows_within rows (take at l) ≡ Some qs
  pub many : length qs ≡ rows
  pub apart : distinct qs ≡ true
  pub long : length met ≡ 16
  pub none : Met qs met

pub noting_start : (l : List ℕ) → Noting l 0 0 (replicate 16 false)
unfolding distinct
noting_start l =
    record {
      qs = [];
      within = omega arith;
      few = omega arith;
      made = rows_empty 0;
      many = refl;
      apart = refl;
      long = refl;
      none = met_none (replicate 16 false);
    }

module _ {l : List ℕ} {at rows : ℕ} {met : List Bool} (g : Noting l at rows met) where
  rows_made : rows_within 16 (take at l) ≡ Some g.qs
  rows_made = rows_up 16 rows (take at l) g.qs g.few g.made

  pub rows_before : InRows (take at l)
  rows_before = in_rows (take at l) g.qs rows_made

  -- ---- nothing is left
  module _ (past : length l ≤ at) where
    whole_made : rows_within 16 l ≡ Some g.qs
    whole_made = rw (take_all at l past) at rows_made

    whole : queues l ≡ g.qs
    whole = all_queues l g.qs whole_made g.apart

    pub finished : {r : Option ℕ} → r ≡ then_some (not (eqb rows 0)) rows → r ≡ row_count l
    finished e = e ∙ go (eqb rows 0) refl
      where
        go : (t : Bool) → eqb rows 0 ≡ t → then_some (not t) rows ≡ row_count l
        go true z = none_listed l (λ p. let e = ap length whole in let many = g.many in let n = eqb-true rows 0 z in omega arith)
        go false z = all_listed l g.qs whole_made g.apart g.many (eqb-false rows 0 z)

  -- ---- a row has to follow
  module _ (inside : at < length l) where
    more : 0 < length (drop at l)
    more = rw length-drop (omega arith)

    behind : 0 < length (queues l) → Onward (16 - rows) (drop at l) g.qs (queues l)
    behind p = onward l at rows g.qs g.made g.many (queues l) g.few (sound l p).made

    pub refused_full : rows ≡ 16 → None ≡ row_count l
    refused_full e =
        let k : 16 - rows ≡ 0 = omega arith in
        none_listed l (λ p. nothing (sym (rows_past (drop at l) more) ∙ rw k at (behind p).made))

-- in a directory that is in order the row at a place follows on those before
record Ahead (l : List ℕ) (at : ℕ) (qs : List Queue) : Type 0 where
  pub ok : row_ok (drop at l) ≡ true
  pub rest : List Queue
  pub whole : queues l ≡ qs ++ row_queue (drop at l) ∷ rest

module _ {l : List ℕ} {at rows : ℕ} {met : List Bool} (g : Noting l at rows met) (inside : at < length l) (room : rows ≡ 16 → ⊥) where
  ahead : 0 < length (queues l) → Ahead l at g.qs
  ahead p =
      let few = g.few in
      let o = behind g inside p in
      let k : 16 - rows ≡ suc (15 - rows) = omega (arith, room) in
      let s = split (15 - rows) (drop at l) o.rest (more g inside) (rw k at o.made) in
      record { ok = s.ok; rest = s.rest; whole = o.whole ∙ ap (λ (r : List Queue). g.qs ++ r) s.all }

-- ---- a turn: what follows is lent, and begins with a row of this size that tells of this queue

abbrev pub lent : List ℕ → ℕ → List ℕ
lent l at = take (length l - at) (drop at l)

lent_is : (l : List ℕ) (at : ℕ) → lent l at ≡ drop at l
lent_is l at = take_all (length l - at) (drop at l) (rw length-drop (omega arith))

pub refused_bad : {l : List ℕ} {at rows : ℕ} {met : List Bool} {t : Bool} → Noting l at rows met → at < length l → (rows ≡ 16 → ⊥) → t ≡ row_ok (lent l at) → t ≡ false → None ≡ row_count l
refused_bad {l} {at} g inside room e f =
    none_listed l (λ p. true≢false (sym (ahead g inside room p).ok ∙ sym (rw (lent_is l at) at e) ∙ f))

pub record Turn (l : List ℕ) (at rows : ℕ) (met : List Bool) (size : ℕ) (q : Queue) : Type 0 where
  pub noting : Noting l at rows met
  pub inside : at < length l
  pub room : rows ≡ 16 → ⊥
  pub ok : row_ok (drop at l) ≡ true
  pub sized : size ≡ row_length (drop at l)
  pub own : q ≡ row_queue (drop at l)

pub turn : {l : List ℕ} {at rows : ℕ} {met : List Bool} {size : ℕ} {q : Queue}
    → Noting l at rows met → at < length l → (rows ≡ 16 → ⊥) → row_ok (lent l at) ≡ true → size ≡ row_length (lent l at) → q ≡ row_queue (lent l at) → Turn l at rows met size q
turn {l} {at} g inside room ok sized own =
    record { noting = g; inside = inside; room = room; ok = rw (lent_is l at) at ok; sized = rw (lent_is l at) at sized; own = rw (lent_is l at) at own }

module _ {l : List ℕ} {at rows : ℕ} {met : List Bool} {size : ℕ} {q : Queue} (t : Turn l at rows met size q) where
  pub within_on : at + size ≤ length l
  within_on =
      let b = begins (drop at l) t.ok in
      let fits = rw length-drop at b.fits in
      let sized = t.sized in
      let inside = t.inside in
      omega arith

  found_before : {r : Option ℕ} → r ≡ row_from 0 q.topic q.id (rows_of (take at l)) → r ≡ row_from 0 q.topic q.id t.noting.qs
  found_before e = e ∙ rw (rows_of_is (take at l) t.noting.qs (rows_made t.noting))

  pub refused_again : {r : Option ℕ} {b : Bool} → r ≡ row_from 0 q.topic q.id (rows_of (take at l)) → b ≡ is_some r → b ≡ true → None ≡ row_count l
  refused_again {r} e f g = go r (found_before e) (sym f ∙ g)
    where
      go : (r : Option ℕ) → r ≡ row_from 0 q.topic q.id t.noting.qs → is_some r ≡ true → None ≡ row_count l
      go None e g = absurd (true≢false (sym g))
      go (Some m) e g =
          none_listed l
          (λ p. let a = ahead t.noting t.inside t.room p in not_again t.noting.qs a.rest q m (rw (a.whole, ← t.own) at (sound l p).apart) e)

  -- no row so far has its topic and id
  abbrev pub New : Type 0
  New = Absent q.topic q.id t.noting.qs

  pub new_sought : {r : Option ℕ} {b : Bool} → r ≡ row_from 0 q.topic q.id (rows_of (take at l)) → b ≡ is_some r → b ≡ false → New
  new_sought {r} e f g = go r (found_before e) (sym f ∙ g)
    where
      go : (r : Option ℕ) → r ≡ row_from 0 q.topic q.id t.noting.qs → is_some r ≡ false → New
      go None e g = from_none q.topic q.id 0 t.noting.qs (sym e)
      go (Some m) e g = absurd (true≢false g)

  module _ {k : ℕ} (place : k ≡ bucket_of q) where
    pub new_bucket : get_or met k false ≡ false → New
    new_bucket e = t.noting.none q (rw place at e)

    pub noting_on : k < 16 → New → Noting l (at + size) (rows + 1) (set met k true)
    noting_on low new =
        let g = t.noting in
        let few = g.few in
        let many = g.many in
        let room = t.room in
        let long : bucket_of q < length met = rw (g.long, ← place) low in
        record {
          qs = g.qs ++ q ∷ [];
          within = within_on;
          few = omega (arith, room);
          made = rw t.own (one_more l at rows g.qs g.made many size t.ok t.sized);
          many = rw length-append (omega arith);
          apart = apart_more g.qs q g.apart new;
          long = rw length-set g.long;
          none = rw place (met_more g.qs q met long g.none);
        }
