-- Rows with other bytes behind them. Assumes nothing.
use Prim.Native.Nat.{ℕ, zero, suc, ◌+◌, ◌-◌, ◌≤◌}
use mathlib.Core.Path.{◌≡◌, refl, sym, ◌∙◌}
use mathlib.Core.Bool.{true}
use mathlib.Core.List.{List, [], ◌∷◌, ◌++◌}
use native.Mathlib.Omega.{arith}
use native.Mathlib.Nat.{zero-add, suc-add}
use lib.ListN.{length, take, drop, length-append, take-append-drop, drop_of_length-le}
use lib.Seq.{drop-append-le, length-take-le, take-add}
use borrow.Author.Tests.{le-leb}
use Rattle.std.specs.Prelude.{Option, None, Some}
use Rattle.codec.specs.Bytes.{little}
use Rattle.codec.specs.Choice.{pick}
use Rattle.codec.proofs.Parts.{part_left}
use Rattle.codec.proofs.Fields.{field_left}
use Rattle.directory.specs.Directory.{Queue, row_length, row_kind, row_id, row_queue, row_ok, before, rows_within}
use Rattle.directory.proofs.Reading.{nothing, begins}
use Rattle.directory.proofs.Chain.{rows_empty, rows_past, rows_first, split}

-- ---- one row, and what stands behind it

module _ (b r : List ℕ) (head : 8 ≤ length b) where
  length_front : row_length (b ++ r) ≡ row_length b
  unfolding row_length
  length_front = field_left little 2 0 b r (omega arith)

  kind_front : row_kind (b ++ r) ≡ row_kind b
  unfolding row_kind
  kind_front = field_left little 2 2 b r (omega arith)

  id_front : row_id (b ++ r) ≡ row_id b
  unfolding row_id
  id_front = field_left little 4 4 b r (omega arith)

  module _ (low : 8 ≤ row_length b) (fits : row_length b ≤ length b) where
    queue_front : row_queue (b ++ r) ≡ row_queue b
    unfolding row_queue
    queue_front = rw (length_front, id_front, part_left (row_length b - 8) 8 b r (omega arith))

    ok_front : row_ok (b ++ r) ≡ row_ok b
    unfolding row_ok
    ok_front =
        let n : 8 ≤ length (b ++ r) = rw length-append (omega arith) in
        let m : row_length b ≤ length (b ++ r) = rw length-append (omega arith) in
        rw (length_front, kind_front, id_front, le-leb 8 (length (b ++ r)) n, le-leb (row_length b) (length (b ++ r)) m, le-leb 8 (length b) head, le-leb (row_length b) (length b) fits)

-- a row alone
lone : (bytes : List ℕ) (size : ℕ) → row_ok bytes ≡ true → size ≡ row_length bytes → rows_within 1 (take size bytes) ≡ Some (row_queue bytes ∷ [])
unfolding pick before
lone bytes size ok own =
    let g = begins bytes ok in
    let b = take size bytes in
    let r = drop size bytes in
    let low = g.low in
    let n : length b ≡ size = length-take-le size bytes (rw own g.fits) in
    let j : b ++ r ≡ bytes = take-append-drop size bytes in
    let l : row_length bytes ≡ row_length b = rw j at (length_front b r (omega arith)) in
    let o : row_ok bytes ≡ row_ok b = rw j at (ok_front b r (omega arith) (omega arith) (omega arith)) in
    let q : row_queue bytes ≡ row_queue b = rw j at (queue_front b r (omega arith) (omega arith) (omega arith)) in
    rows_first b (omega arith) 0
    ∙ rw (← o, ok, ← q, drop_of_length-le b {i = row_length b} (omega arith), rows_empty 0)

-- ---- rows, and what stands behind them

unfoldable after : List Queue → Option (List Queue) → Option (List Queue)
after [] o = o
after (q ∷ qs) o = before q (after qs o)

after_none : (qs : List Queue) → after qs None ≡ None
unfolding after before
after_none [] = refl
after_none (q ∷ qs) = rw (after_none qs)

after_some : (qs rs : List Queue) → after qs (Some rs) ≡ Some (qs ++ rs)
unfolding after before
after_some [] rs = refl
after_some (q ∷ qs) rs = rw (after_some qs rs)

rows_after : (n m : ℕ) (b r : List ℕ) (qs : List Queue) → rows_within n b ≡ Some qs → rows_within (length qs + m) (b ++ r) ≡ after qs (rows_within m r)
unfolding after pick
rows_after zero m [] r qs e = let z : [] ≡ qs = cc (rows_empty 0) in rw (← z, zero-add)
rows_after (suc n) m [] r qs e = let z : [] ≡ qs = cc (rows_empty (suc n)) in rw (← z, zero-add)
rows_after zero m (x ∷ l) r qs e = absurd (nothing (sym (rows_past (x ∷ l) (omega arith)) ∙ e))
rows_after (suc n) m (x ∷ l) r qs e =
    let b = x ∷ l in
    let s = split n b qs (omega arith) e in
    let g = begins b s.ok in
    let low = g.low in
    let fits = g.fits in
    rw (s.all, suc-add)
    (rows_first (b ++ r) (omega arith) (length s.rest + m)
    ∙ rw (ok_front b r (omega arith) (omega arith) fits, s.ok, queue_front b r (omega arith) (omega arith) fits, length_front b r (omega arith), drop-append-le (row_length b) b r fits, rows_after n m (drop (row_length b) b) r s.rest s.made))

-- all rows are the first ones and those of the bytes behind them
pub record Onward (m : ℕ) (r : List ℕ) (qs all : List Queue) : Type 0 where
  pub rest : List Queue
  pub whole : all ≡ qs ++ rest
  pub made : rows_within m r ≡ Some rest

module _ (l : List ℕ) (at rows : ℕ) (qs : List Queue) (made : rows_within rows (take at l) ≡ Some qs) (many : length qs ≡ rows) where
  pub onward : (all : List Queue) → rows ≤ 16 → rows_within 16 l ≡ Some all → Onward (16 - rows) (drop at l) qs all
  onward all few e = go (rows_within (16 - rows) (drop at l)) refl
    where
      k : rows + (16 - rows) ≡ 16
      k = omega arith

      a : Some all ≡ after qs (rows_within (16 - rows) (drop at l))
      a = sym e ∙ rw (many, k, take-append-drop) at (rows_after rows (16 - rows) (take at l) (drop at l) qs made)

      go : (o : Option (List Queue)) → rows_within (16 - rows) (drop at l) ≡ o → Onward (16 - rows) (drop at l) qs all
      go None f = absurd (nothing (sym (rw (f, after_none qs) at a)))
      go (Some rest) f = let w = rw (f, after_some qs rest) at a in record { rest = rest; whole = cc; made = f }

  pub one_more : (size : ℕ) → row_ok (drop at l) ≡ true → size ≡ row_length (drop at l) → rows_within (rows + 1) (take (at + size) l) ≡ Some (qs ++ row_queue (drop at l) ∷ [])
  one_more size ok own =
      rw (← many, take-add at size l)
      (rows_after rows 1 (take at l) (take size (drop at l)) qs made ∙ rw (lone (drop at l) size ok own) (after_some qs (row_queue (drop at l) ∷ [])))
