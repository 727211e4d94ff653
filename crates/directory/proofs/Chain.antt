-- Bytes made of rows: the first row and the rest. Assumes nothing.
use Prim.Native.Nat.{ℕ, zero, suc, ◌+◌, ◌-◌, ◌≤◌, ◌<◌}
use mathlib.Core.Path.{◌≡◌, refl, sym, ap, ◌∙◌}
use mathlib.Core.Bool.{true}
use mathlib.Core.List.{List, [], ◌∷◌}
use native.Mathlib.Omega.{arith}
use native.Mathlib.Nat.{zero-add, suc-add}
use lib.ListN.{length, take, drop, length-drop}
use lib.Seq.{take_all}
use borrow.Author.Tests.{ne_eqb}
use Rattle.std.specs.Prelude.{Option, None, Some}
use Rattle.codec.specs.Bytes.{little, field}
use Rattle.codec.specs.Choice.{pick}
use Rattle.directory.specs.Directory.{Queue, row_length, row_queue, row_ok, before, rows_within}
use Rattle.directory.specs.Inner.{rows_of, InRows, Begins, First}
use Rattle.codec.proofs.Choices.{held}
use Rattle.directory.proofs.Reading.{nothing, begins}

pub rows_empty : (n : ℕ) → rows_within n [] ≡ Some []
unfolding rows_within pick
rows_empty zero = refl
rows_empty (suc n) = refl

-- bytes that are not empty
module _ (bytes : List ℕ) (more : 0 < length bytes) where
  pub rows_past : rows_within 0 bytes ≡ None
  unfolding rows_within pick
  rows_past = rw (ne_eqb (length bytes) 0 (λ z. omega arith))

  pub rows_first : (n : ℕ) → rows_within (suc n) bytes ≡ pick (row_ok bytes) (before (row_queue bytes) (rows_within n (drop (row_length bytes) bytes))) None
  unfolding rows_within pick
  rows_first n = rw (ne_eqb (length bytes) 0 (λ z. omega arith))

record Fore (q : Queue) (o : Option (List Queue)) (qs : List Queue) : Type 0 where
  pub rest : List Queue
  pub all : qs ≡ q ∷ rest
  pub made : o ≡ Some rest

fore : (q : Queue) (o : Option (List Queue)) (qs : List Queue) → before q o ≡ Some qs → Fore q o qs
unfolding before
fore q None qs e = absurd (nothing e)
fore q (Some r) qs e = record { rest = r; all = cc; made = refl }

-- bytes made of rows, not empty, begin with a row
pub record Split (n : ℕ) (bytes : List ℕ) (qs : List Queue) : Type 0 where
  pub ok : row_ok bytes ≡ true
  pub rest : List Queue
  pub all : qs ≡ row_queue bytes ∷ rest
  pub made : rows_within n (drop (row_length bytes) bytes) ≡ Some rest

pub split : (n : ℕ) (bytes : List ℕ) (qs : List Queue) → 0 < length bytes → rows_within (suc n) bytes ≡ Some qs → Split n bytes qs
split n bytes qs h e =
    let k = held (row_ok bytes) _ None (Some qs) nothing (sym (rows_first bytes h n) ∙ e) in
    let f = fore (row_queue bytes) _ qs k.rest in
    record { ok = k.holds; rest = f.rest; all = f.all; made = f.made }

-- what is at most n rows is at most one more
rows_more : (n : ℕ) (bytes : List ℕ) (qs : List Queue) → rows_within n bytes ≡ Some qs → rows_within (suc n) bytes ≡ Some qs
unfolding rows_within pick before
rows_more zero [] qs e = e
rows_more zero (b ∷ l) qs e = absurd (nothing (sym (rows_past (b ∷ l) (omega arith)) ∙ e))
rows_more (suc n) [] qs e = e
rows_more (suc n) (b ∷ l) qs e =
    let s = split n (b ∷ l) qs (omega arith) e in
    rows_first (b ∷ l) (omega arith) (suc n)
    ∙ rw (s.ok, rows_more n (drop (row_length (b ∷ l)) (b ∷ l)) s.rest s.made) (ap Some (sym s.all))

pub rows_up : (m n : ℕ) (bytes : List ℕ) (qs : List Queue) → n ≤ m → rows_within n bytes ≡ Some qs → rows_within m bytes ≡ Some qs
rows_up m n bytes qs h e = let k : m - n + n ≡ m = omega arith in rw k at (go (m - n))
  where
    go : (d : ℕ) → rows_within (d + n) bytes ≡ Some qs
    go zero = rw zero-add e
    go (suc d) = rw suc-add (rows_more (d + n) bytes qs (go d))

pub rows_of_is : (bytes : List ℕ) (qs : List Queue) → rows_within 16 bytes ≡ Some qs → rows_of bytes ≡ qs
unfolding rows_of
rows_of_is bytes qs e = rw e

pub in_rows : (bytes : List ℕ) (qs : List Queue) → rows_within 16 bytes ≡ Some qs → InRows bytes
in_rows bytes qs e = e ∙ ap Some (sym (rows_of_is bytes qs e))

pub rows_none : (bytes : List ℕ) → length bytes ≡ 0 → rows_of bytes ≡ []
rows_none [] h = rows_of_is [] [] (rows_empty 16)
rows_none (b ∷ l) h = absurd (omega arith)

module _ (bytes : List ℕ) (made : InRows bytes) (more : 0 < length bytes) where
  first : Split 15 bytes (rows_of bytes)
  first = split 15 bytes (rows_of bytes) more made

  pub row_begins : Begins bytes
  row_begins = begins bytes first.ok

  pub first_row : {size : ℕ} → size ≡ field little 2 0 bytes → First bytes size
  unfolding row_length
  first_row {size} own =
      let b = row_begins in
      let fits : size ≤ length bytes = rw own b.fits in
      let rest = take (length bytes - size) (drop size bytes) in
      let behind : rest ≡ drop size bytes = take_all (length bytes - size) (drop size bytes) (rw length-drop (omega arith)) in
      let m : rows_within 16 rest ≡ Some first.rest = rw (behind, own) (rows_more 15 (drop (row_length bytes) bytes) first.rest first.made) in
      record { begins = b; own = own; fits = fits; rest = in_rows rest first.rest m; all = first.all ∙ rw (rows_of_is rest first.rest m) }
