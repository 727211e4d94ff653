-- A number of the index after one was stored: the same place, a place before it, a place after it; and one stored after another. Assumes nothing.
use Prim.Native.Nat.{ℕ, ◌+◌, ◌^◌, ◌≤◌, ◌<◌}
use mathlib.Core.Path.{◌≡◌, sym, ◌∙◌}
use mathlib.Core.Bool.{true}
use mathlib.Core.List.{List}
use lib.Dec.{leb}
use lib.ListN.{length}
use borrow.Author.Tests.{leb-true}
use Rattle.codec.specs.Bytes.{big, bytes_of, field}
use Rattle.codec.proofs.Numbers.{length_bytes}
use Rattle.codec.proofs.Parts.{length_overwrite, overwrite_twice, overwrite_comm}
use Rattle.codec.proofs.Fields.{field_written, field_before, field_after}
use Rattle.index_file.specs.Index.{store}

module _ (w at v : ℕ) (l : List ℕ) where
  pub length_store : length (store w at v l) ≡ length l
  length_store = length_overwrite l at (bytes_of big w v)

  pub stored : at + w ≤ length l → v < 256 ^ w → field big w at (store w at v l) ≡ v
  stored h k = field_written big w l at v k h

  pub kept_before : (w' a : ℕ) → a + w' ≤ at → field big w' a (store w at v l) ≡ field big w' a l
  kept_before w' a h = field_before big w' a l at (bytes_of big w v) h

  pub kept_after : (w' a : ℕ) → at + w ≤ a → field big w' a (store w at v l) ≡ field big w' a l
  kept_after w' a h = field_after big w' a l at (bytes_of big w v) (rw length_bytes h)

  -- over another at the same place it is alone
  pub store_twice : (v' : ℕ) → store w at v (store w at v' l) ≡ store w at v l
  store_twice v' = overwrite_twice l at (bytes_of big w v') (bytes_of big w v) (length_bytes big w v' ∙ sym (length_bytes big w v))

-- over one at a higher place it may go first
pub store_first : (w at w' at' v v' : ℕ) (l : List ℕ) → leb (at + w) at' ≡ true → store w at v (store w' at' v' l) ≡ store w' at' v' (store w at v l)
store_first w at w' at' v v' l h = overwrite_comm l at (bytes_of big w v) at' (bytes_of big w' v') (rw length_bytes (leb-true (at + w) at' h))
