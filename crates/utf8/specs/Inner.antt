-- What the functions inside the crate promise. Assumes nothing.
use Rattle.std.specs.Prelude.{ℕ, ◌+◌, ◌*◌, ◌%◌, ◌≤◌, ◌≡◌, List, ltb, eqb, length, drop}
use Rattle.codec.specs.Choice.{pick}
use Rattle.utf8.specs.declared.Char.{Char}
use Rattle.utf8.specs.Utf8.{two, three, four, char, none, valid}

-- document 02, item 2: "The number of leading ones in the first byte", of a byte
unfoldable pub leading_ones : ℕ → ℕ
leading_ones a =
    pick (ltb a 128) 0 (pick (ltb a 192) 1 (pick (ltb a 224) 2 (pick (ltb a 240) 3 (pick (ltb a 248) 4 (pick (ltb a 252) 5 (pick (ltb a 254) 6 (pick (ltb a 255) 7 8)))))))

-- the character, where the first byte's leading ones are counted
unfoldable pub by_leading_ones : ℕ → ℕ → ℕ → ℕ → ℕ → Char
by_leading_ones n a b c d =
    pick (eqb n 0) (char 1 a)
    (pick (eqb n 2) (pick (two a b) (char 2 (a % 32 * 64 + b % 64)) none)
    (pick (eqb n 3) (pick (three a b c) (char 3 ((a % 16 * 64 + b % 64) * 64 + c % 64)) none)
    (pick (eqb n 4) (pick (four a b c d) (char 4 (((a % 8 * 64 + b % 64) * 64 + c % 64) * 64 + d % 64)) none) none)))

-- nothing but characters was passed between two places: what is left from the second is UTF-8 exactly if what is left from the first is
pub record Behind (s : List ℕ) (at r : ℕ) : Type 0 where
  pub on : at ≤ r
  pub inside : r ≤ length s
  pub left : valid (drop r s) ≡ valid (drop at s)
