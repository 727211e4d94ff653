-- What callers may rely on, as statements. Assumes nothing.
use Rattle.std.specs.Prelude.{ℕ, ◌<◌, ◌≡◌, true, ◌&&◌, List, ◌∷◌, ◌++◌}
use Rattle.utf8.specs.Utf8.{valid, units, plain}

-- bytes below 80 hex are valid and their own units
abbrev pub PlainValid : Type 0
PlainValid = (l : List ℕ) → plain l ≡ true → valid l ≡ true

abbrev pub PlainUnits : Type 0
PlainUnits = (l : List ℕ) → plain l ≡ true → units l ≡ l

-- behind a valid text, what follows decides; its units come behind
abbrev pub JoinedValid : Type 0
JoinedValid = (a b : List ℕ) → valid a ≡ true → valid (a ++ b) ≡ valid b

abbrev pub JoinedUnits : Type 0
JoinedUnits = (a b : List ℕ) → valid a ≡ true → units (a ++ b) ≡ units a ++ units b

-- a byte below 80 hex, as a space or `#`, is never inside a character: the whole is valid if both sides are
abbrev pub Divided : Type 0
Divided = (a b : List ℕ) (x : ℕ) → x < 128 → valid (a ++ x ∷ b) ≡ valid a && valid b

-- a text has one way to be valid: no two texts have the same units
abbrev pub SameUnits : Type 0
SameUnits = (a b : List ℕ) → valid a ≡ true → valid b ≡ true → units a ≡ units b → a ≡ b
