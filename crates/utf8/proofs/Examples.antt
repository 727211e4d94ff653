-- Worked examples, by computation. Assumes nothing.
use Prim.Native.Nat.{ℕ}
use mathlib.Core.Path.{◌≡◌, refl}
use mathlib.Core.Bool.{true, false}
use mathlib.Core.List.{List, [], ◌∷◌}
use Rattle.codec.specs.Choice.{pick}
use Rattle.utf8.specs.Utf8.{range, tail, one, two, three, four, first, front, units_of, valid_from, valid, units_from, units}

-- a text that is UTF-8, and its units
pub record Text (bytes us : List ℕ) : Type 0 where
  pub sound : valid bytes ≡ true
  pub its_units : units bytes ≡ us

-- C3 A9
pub accent : Text (195 ∷ 169 ∷ []) (233 ∷ [])
unfolding pick range tail one two three four first front units_of valid_from valid units_from units
accent = record { sound = refl; its_units = refl }

-- F0 9F 98 80: two units, the high surrogate first
pub face : Text (240 ∷ 159 ∷ 152 ∷ 128 ∷ []) (55357 ∷ 56832 ∷ [])
unfolding pick range tail one two three four first front units_of valid_from valid units_from units
face = record { sound = refl; its_units = refl }

-- EF BB BF 6B: no byte order mark is dropped
pub marked : Text (239 ∷ 187 ∷ 191 ∷ 107 ∷ []) (65279 ∷ 107 ∷ [])
unfolding pick range tail one two three four first front units_of valid_from valid units_from units
marked = record { sound = refl; its_units = refl }

-- bytes that are not UTF-8
abbrev Bad : List ℕ → Type 0
Bad bytes = valid bytes ≡ false

-- ED A0 80: a surrogate
pub surrogate : Bad (237 ∷ 160 ∷ 128 ∷ [])
unfolding pick range tail one two three four first front valid_from valid
surrogate = refl

-- ED A0 BD ED B8 80: a surrogate pair in six bytes
pub surrogates : Bad (237 ∷ 160 ∷ 189 ∷ 237 ∷ 184 ∷ 128 ∷ [])
unfolding pick range tail one two three four first front valid_from valid
surrogates = refl

-- C0 80: overlong
pub overlong : Bad (192 ∷ 128 ∷ [])
unfolding pick range tail one two three four first front valid_from valid
overlong = refl

-- F4 90 80 80: above 10FFFF
pub above : Bad (244 ∷ 144 ∷ 128 ∷ 128 ∷ [])
unfolding pick range tail one two three four first front valid_from valid
above = refl

-- E2 82: cut
pub cut : Bad (226 ∷ 130 ∷ [])
unfolding pick range tail one two three four first front valid_from valid
cut = refl

-- 80: stray
pub stray : Bad (128 ∷ [])
unfolding pick range tail one two three four first front valid_from valid
stray = refl

-- F8 88 80 80 80: the form of five bytes
pub five : Bad (248 ∷ 136 ∷ 128 ∷ 128 ∷ 128 ∷ [])
unfolding pick range tail one two three four first front valid_from valid
five = refl
