-- The bits of the bytes of a text, gathered in words of eight. Assumes nothing.
use Rattle.std.specs.Prelude.{ℕ, ◌≡◌, Bool, true, List, eqb}
use Rattle.std.specs.Int.Bits.{bit_and}
use Rattle.codec.specs.Bytes.{cut}
use Rattle.utf8.specs.Utf8.{plain}

-- none of eight bytes has its top bit
unfoldable pub no_top : ℕ → Bool
no_top bits = eqb (bit_and bits 0x8080808080808080) 0

-- the bits of bytes that were looked at: those from `at` up to i are among them, and all are of the list
pub record BitsOf (l : List ℕ) (at i bits : ℕ) : Type 0 where
  pub below : no_top bits ≡ true → plain (cut at i l) ≡ true
  pub only : plain l ≡ true → no_top bits ≡ true
