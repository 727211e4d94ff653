-- Worked examples of the hash, by computation. Assumes nothing.
use Rattle.std.proofs.Common.{◌≡◌, ℕ, List, [], ◌∷◌, refl}
use Rattle.codec.specs.Choice.{pick}
use Rattle.utf8.specs.Utf8.{range, tail, one, two, three, four, first, front, units_of, units_from, units}
use Rattle.java_hash.specs.Hash.{hash_from, hash_of}

abbrev Hashed : List ℕ → ℕ → Type 0
Hashed bytes hash = hash_of bytes ≡ hash

-- C3 A9: one unit
pub accent : Hashed (195 ∷ 169 ∷ []) 233
unfolding pick range tail one two three four first front units_of units_from units hash_from hash_of
accent = refl

-- F0 9F 98 80: two units, the high surrogate first
pub face : Hashed (240 ∷ 159 ∷ 152 ∷ 128 ∷ []) 1772899
unfolding pick range tail one two three four first front units_of units_from units hash_from hash_of
face = refl

-- EF BB BF 6B: no byte order mark is dropped
pub marked : Hashed (239 ∷ 187 ∷ 191 ∷ 107 ∷ []) 2023756
unfolding pick range tail one two three four first front units_of units_from units hash_from hash_of
marked = refl
