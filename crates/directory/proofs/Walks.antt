-- Looking for a topic and id: the row's number is its place among the queues. Assumes nothing.
use Prim.Native.Nat.{ℕ, ◌+◌, ◌^◌, ◌<◌}
use mathlib.Core.Path.{◌≡◌, refl, ◌∙◌}
use mathlib.Core.Bool.{Bool, true, false, cond}
use mathlib.Core.List.{List, [], ◌∷◌}
use native.Mathlib.Omega.{arith}
use lib.ListN.{length}
use Rattle.std.specs.Prelude.{Some}
use Rattle.std.specs.List.{position, position_from}
use Rattle.std.proofs.lemmas.Iterator.Adapters.{position_from-zero}
use Rattle.codec.specs.Choice.{pick}
use Rattle.directory.specs.Directory.{Queue, names, row_from}
use Rattle.directory.specs.Inner.{rows_of, InRows}
use Rattle.directory.proofs.Laws.{rows_few}

-- the rows are few enough to be numbered
pub rows_fit : (bytes : List ℕ) → InRows bytes → 0 + length (rows_of bytes) < 2 ^ 64
rows_fit bytes made = let h = rows_few 16 bytes (rows_of bytes) made in omega arith

module _ (topic : List ℕ) (id : ℕ) where
  sought_from : (n : ℕ) (qs : List Queue) → position_from (names topic id) n qs ≡ row_from n topic id qs
  unfolding row_from pick
  sought_from n [] = refl
  sought_from n (q ∷ qs) = rw (sought_from (n + 1) qs) (go (names topic id q))
    where
      go : (t : Bool) → cond t (Some n) (row_from (n + 1) topic id qs) ≡ pick t (Some n) (row_from (n + 1) topic id qs)
      go true = refl
      go false = refl

  pub sought : (qs : List Queue) → position (names topic id) qs ≡ row_from 0 topic id qs
  sought qs = position_from-zero (names topic id) qs ∙ sought_from 0 qs
