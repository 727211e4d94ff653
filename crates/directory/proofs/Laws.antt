-- What the directory's callers may rely on: how many rows there are, and that at most one fits. Assumes nothing.
use Prim.Native.Nat.{ℕ, zero, suc, ◌+◌, ◌-◌, ◌≤◌, ◌<◌}
use mathlib.Core.Path.{◌≡◌, refl, sym, ap, ◌∙◌}
use mathlib.Core.Bool.{Bool, true, false, not}
use mathlib.Core.List.{List, [], ◌∷◌}
use native.Mathlib.Omega.{arith}
use lib.Dec.{eqb}
use lib.ListN.{length, drop}
use borrow.Author.Tests.{eqb-true, eq-eqb}
use Rattle.std.specs.Prelude.{Option, None, Some}
use Rattle.codec.specs.Bytes.{same}
use Rattle.codec.specs.Choice.{pick}
use Rattle.codec.proofs.Equal.{same_refl, same_true}
use Rattle.directory.specs.Claims.{Fits, ListingRows, ListingRefused, RowFound, RowNone, OneRow, RowsDiffer}
use Rattle.directory.specs.Directory.{Queue, row_length, rows_within, row, names, row_from, listed, distinct, queues, counted, row_count, row_of}
use Rattle.codec.proofs.Choices.{both}
use Rattle.directory.proofs.Reading.{nothing}
use Rattle.directory.proofs.Chain.{rows_past, split}
use Rattle.directory.proofs.Judged.{sound}

-- ---- how many rows

pub rows_few : (n : ℕ) (bytes : List ℕ) (qs : List Queue) → rows_within n bytes ≡ Some qs → length qs ≤ n
unfolding rows_within pick
rows_few zero [] qs e = let m : [] ≡ qs = cc in omega (arith, ap length m)
rows_few (suc n) [] qs e = let m : [] ≡ qs = cc in omega (arith, ap length m)
rows_few zero (b ∷ l) qs e = absurd (nothing (sym (rows_past (b ∷ l) (omega arith)) ∙ e))
rows_few (suc n) (b ∷ l) qs e =
    let s = split n (b ∷ l) qs (omega arith) e in
    let h = rows_few n (drop (row_length (b ∷ l)) (b ∷ l)) s.rest s.made in
    rw s.all (omega arith)

pub listing_rows : ListingRows
unfolding row_count counted
listing_rows d n e = go (queues d) e (λ h. rows_few 16 d (queues d) (sound d h).made)
  where
    go : (qs : List Queue) → counted qs ≡ Some n → (0 < length qs → length qs ≤ 16) → (length qs ≡ n) × (0 < n) × (n ≤ 16)
    go [] e h = absurd (nothing e)
    go (q ∷ qs) e h =
        let m : length (q ∷ qs) ≡ n = cc in
        let k = h (omega arith) in
        (m, omega arith, omega arith)

pub listing_refused : ListingRefused
unfolding row_count counted
listing_refused d e = go (queues d) e
  where
    go : (qs : List Queue) → counted qs ≡ None → qs ≡ []
    go [] e = refl
    go (q ∷ qs) e = absurd (nothing (sym e))

-- ---- which row

pub names_own : (q : Queue) → names q.topic q.id q ≡ true
unfolding names
names_own q = rw (eq-eqb q.id q.id refl, same_refl q.topic)

pub named : (topic : List ℕ) (id : ℕ) (q : Queue) → names topic id q ≡ true → (q.topic ≡ topic) × (q.id ≡ id)
unfolding names
named topic id q e =
    let b = both (eqb q.id id) (same q.topic topic) e in
    (same_true q.topic topic b.1, eqb-true q.id id b.0)

pub unlisted : (r : Option ℕ) → not (listed r) ≡ true → r ≡ None
unfolding listed
unlisted None e = refl
unlisted (Some i) e = cc

module _ (topic : List ℕ) (id : ℕ) where
  pub from_found : (n : ℕ) (qs : List Queue) (i : ℕ) → row_from n topic id qs ≡ Some i → (n ≤ i) × Fits topic id qs (i - n)
  unfolding row_from pick
  from_found n [] i e = absurd (nothing e)
  from_found n (q ∷ qs) i e = go (names topic id q) refl e (from_found (n + 1) qs i)
    where
      go : (t : Bool) → names topic id q ≡ t → pick t (Some n) (row_from (n + 1) topic id qs) ≡ Some i
          → (row_from (n + 1) topic id qs ≡ Some i → (n + 1 ≤ i) × Fits topic id qs (i - (n + 1))) → (n ≤ i) × Fits topic id (q ∷ qs) (i - n)
      go true f e ih =
          let m : n ≡ i = cc in
          let z : i - n ≡ 0 = omega arith in
          (omega arith, rw z (record { within = omega arith; named = f }))
      go false f e ih =
          let h = ih e in
          let l = h.0 in
          let k = h.1.within in
          let z : i - n ≡ suc (i - (n + 1)) = omega arith in
          (omega arith, rw z (record { within = omega arith; named = h.1.named }))

  pub from_none : (n : ℕ) (qs : List Queue) → row_from n topic id qs ≡ None → (i : ℕ) → Fits topic id qs i → ⊥
  unfolding row_from pick
  from_none n [] e i g = omega arith
  from_none n (q ∷ qs) e i g = go (names topic id q) refl e (from_none (n + 1) qs) i g
    where
      go : (t : Bool) → names topic id q ≡ t → pick t (Some n) (row_from (n + 1) topic id qs) ≡ None
          → (row_from (n + 1) topic id qs ≡ None → (i : ℕ) → Fits topic id qs i → ⊥) → (i : ℕ) → Fits topic id (q ∷ qs) i → ⊥
      go true f e ih i g = nothing (sym e)
      go false f e ih zero g = let z : ◌≡◌ {A = ℕ} 0 1 = cc in omega arith
      go false f e ih (suc i) g = let h = g.within in ih e i (record { within = omega arith; named = g.named })

  pub later : {q : Queue} {qs : List Queue} {i : ℕ} → Fits topic id (q ∷ qs) (suc i) → Fits topic id qs i
  later g = let h = g.within in record { within = omega arith; named = g.named }

  -- where a row fits, none after it does
  alone : (q : Queue) (qs : List Queue) → distinct (q ∷ qs) ≡ true → names topic id q ≡ true → (i : ℕ) → Fits topic id qs i → ⊥
  unfolding distinct
  alone q qs e f =
      let k = (both (not (listed (row_from 0 q.topic q.id qs))) (distinct qs) e).0 in
      let n = named topic id q f in
      from_none 0 qs (unlisted (row_from 0 topic id qs) (rw (n.0, n.1) at k))

  pub once : (qs : List Queue) → distinct qs ≡ true → (i j : ℕ) → Fits topic id qs i → Fits topic id qs j → i ≡ j
  unfolding distinct
  once [] e i j g h = omega arith
  once (q ∷ qs) e zero zero g h = refl
  once (q ∷ qs) e zero (suc j) g h = absurd (alone q qs e g.named j (later h))
  once (q ∷ qs) e (suc i) zero g h = absurd (alone q qs e h.named i (later g))
  once (q ∷ qs) e (suc i) (suc j) g h =
      ap suc (once qs (both (not (listed (row_from 0 q.topic q.id qs))) (distinct qs) e).1 i j (later g) (later h))

pub row_found : RowFound
unfolding row_of
row_found topic id d i e =
    let z : i - 0 ≡ i = omega arith in
    rw z at (from_found topic id 0 (queues d) i e).1

pub row_none : RowNone
unfolding row_of
row_none topic id d e = from_none topic id 0 (queues d) e

pub one_row : OneRow
one_row topic id d i j g h = let w = g.within in once topic id (queues d) (sound d (omega arith)).apart i j g h

pub rows_differ : RowsDiffer
rows_differ d i j h k et ei =
    let q = row (queues d) j in
    one_row q.topic q.id d i j
    (record { within = h; named = rw (← et, ← ei) (names_own (row (queues d) i)) })
    (record { within = k; named = names_own q })
