-- The row that bytes begin with: its length as it is judged, its queue as it is read and compared. Assumes nothing.
use Prim.Native.Nat.{ℕ, ◌≤◌, ◌<◌}
use mathlib.Core.Path.{◌≡◌, sym, ◌∙◌}
use mathlib.Core.Bool.{Bool, true, false, ◌&&◌, and-false}
use mathlib.Core.List.{List}
use native.Mathlib.Omega.{arith}
use lib.Dec.{eqb, leb, ltb}
use lib.ListN.{length}
use lib.Seq.{take_all}
use borrow.Author.Tests.{leb-true, le-leb, lt-leb, eq-eqb, ne_eqb}
use Rattle.std.specs.Prelude.{None, Some}
use Rattle.codec.specs.Bytes.{little, field, part, same}
use Rattle.codec.proofs.Equal.{same_lengths}
use Rattle.codec.proofs.Choices.{both}
use Rattle.directory.specs.Directory.{Queue, row_length, row_kind, row_id, kind_ok, row_ok, names}
use Rattle.directory.specs.Inner.{Begins}

pub nothing : {A : Type 0} {x : A} → None ≡ Some x → ⊥
nothing e = let z : ◌≡◌ {A = ℕ} 0 1 = cc in omega arith

pub begins : (bytes : List ℕ) → row_ok bytes ≡ true → Begins bytes
unfolding row_ok
begins bytes e =
    let n = length bytes in
    let l = row_length bytes in
    let a = (both (leb 8 n && (leb 9 l && leb l 135 && leb l n)) _ e).0 in
    let b = both (leb 8 n) _ a in
    let c = both (leb 9 l && leb l 135) (leb l n) b.1 in
    record { low = leb-true 9 l (both (leb 9 l) (leb l 135) c.0).0; fits = leb-true l n c.1 }

-- ---- whether bytes begin with a row, as the tests have it

module _ (bytes : List ℕ) where
  pub row_short : length bytes < 8 → false ≡ row_ok bytes
  unfolding row_ok
  row_short h = rw (lt-leb 8 (length bytes) h)

  pub row_judged : {size kind id : ℕ}
      → 8 ≤ length bytes
      → size ≡ field little 2 0 bytes
      → kind ≡ field little 2 2 bytes
      → id ≡ field little 4 4 bytes
      → (leb 9 size && leb size 135 && leb size (length bytes) && (eqb kind 1 && ltb id 2147483648)) ≡ row_ok bytes
  unfolding row_ok row_length row_kind row_id kind_ok
  row_judged h es ek ei = rw (es, ek, ei, le-leb 8 (length bytes) h)

-- ---- whether the row names a topic and id, as the tests have it

module _ (topic : List ℕ) (id : ℕ) (q : Queue) where
  pub names_other : (q.id ≡ id → ⊥) → false ≡ names topic id q
  unfolding names
  names_other d = rw (ne_eqb q.id id d)

  pub names_longer : (length q.topic ≡ length topic → ⊥) → false ≡ names topic id q
  unfolding names
  names_longer d = rw (same_lengths q.topic topic d) (sym (and-false (eqb q.id id)))

  pub names_same : {r : Bool} → q.id ≡ id → length q.topic ≡ length topic → r ≡ same (part (length topic) 0 q.topic) topic → r ≡ names topic id q
  unfolding names part
  names_same f g e = e ∙ rw (eq-eqb q.id id f, take_all (length topic) q.topic (omega arith))
