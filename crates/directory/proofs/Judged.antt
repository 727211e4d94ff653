-- The directory as a whole: in rows, and no two rows the same. Assumes nothing.
use Prim.Native.Nat.{ℕ, ◌<◌}
use mathlib.Core.Path.{◌≡◌, refl, sym, ap, ◌∙◌}
use mathlib.Core.Bool.{Bool, true, false, not, true≢false}
use mathlib.Core.List.{List, [], ◌∷◌}
use native.Mathlib.Omega.{arith}
use lib.ListN.{length}
use Rattle.std.specs.Prelude.{Option, None, Some, is_some}
use Rattle.codec.specs.Choice.{pick}
use Rattle.directory.specs.Directory.{Queue, rows_within, row_from, distinct, distinct_rows, queues, counted, row_count, row_of}
use Rattle.directory.specs.Inner.{rows_of}
use Rattle.directory.proofs.Chain.{rows_of_is}

-- ---- a directory in order: its queues are those of all its rows

pub record SoundDirectory (d : List ℕ) : Type 0 where
  pub made : rows_within 16 d ≡ Some (queues d)
  pub apart : distinct (queues d) ≡ true

pub sound : (d : List ℕ) → 0 < length (queues d) → SoundDirectory d
unfolding queues distinct_rows pick
sound d h = go (rows_within 16 d) refl h
  where
    one : (qs : List Queue) (t : Bool) → distinct qs ≡ t → rows_within 16 d ≡ Some qs → 0 < length (pick t qs []) → SoundDirectory d
    one qs true f e h = record { made = rw (e, f); apart = rw (e, f) f }
    one qs false f e h = absurd (omega arith)

    go : (o : Option (List Queue)) → rows_within 16 d ≡ o → 0 < length (distinct_rows o) → SoundDirectory d
    go None e h = absurd (omega arith)
    go (Some qs) e h = one qs (distinct qs) refl e h

pub row_sought : {r : Option ℕ} (topic : List ℕ) (id : ℕ) (d : List ℕ) → 0 < length (queues d) → r ≡ row_from 0 topic id (rows_of d) → r ≡ row_of topic id d
unfolding row_of
row_sought topic id d h e = e ∙ rw (rows_of_is d (queues d) (sound d h).made)

-- ---- a directory that is refused, and one that is not

-- as `is_none` tells it
pub counts_none : {l : Option ℕ} {t : Bool} → is_some l ≡ not t → t ≡ true → l ≡ None
counts_none {l} e h = go l (e ∙ ap not h)
  where
    go : (l : Option ℕ) → is_some l ≡ false → l ≡ None
    go None e = refl
    go (Some n) e = absurd (true≢false e)

pub counts_some : {l : Option ℕ} {t : Bool} → is_some l ≡ not t → t ≡ false → (n : ℕ) × (l ≡ Some n)
counts_some {l} e h = go l (e ∙ ap not h)
  where
    go : (l : Option ℕ) → is_some l ≡ true → (n : ℕ) × (l ≡ Some n)
    go None e = absurd (true≢false (sym e))
    go (Some n) e = (n, refl)

pub none_listed : (d : List ℕ) → (0 < length (queues d) → ⊥) → None ≡ row_count d
unfolding row_count counted
none_listed d h = go (queues d) h
  where
    go : (qs : List Queue) → (0 < length qs → ⊥) → None ≡ counted qs
    go [] h = refl
    go (q ∷ qs) h = absurd (h (omega arith))

module _ (d : List ℕ) (qs : List Queue) (made : rows_within 16 d ≡ Some qs) (apart : distinct qs ≡ true) where
  pub all_queues : queues d ≡ qs
  unfolding queues distinct_rows pick
  all_queues = rw (made, apart)

  pub all_listed : {n : ℕ} → length qs ≡ n → (n ≡ 0 → ⊥) → Some n ≡ row_count d
  unfolding row_count counted
  all_listed {n} e z = rw all_queues (go qs e)
    where
      go : (qs : List Queue) → length qs ≡ n → Some n ≡ counted qs
      go [] e = absurd (z (sym e))
      go (q ∷ qs) e = ap Some (sym e)
