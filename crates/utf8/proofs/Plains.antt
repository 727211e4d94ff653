-- Bytes below 80 hex: joined texts and parts, a text of such bytes, the turns of the loop that goes byte by byte. Assumes nothing.
use Prim.Native.Nat.{ℕ, zero, suc}
use mathlib.Core.Path.{◌≡◌, refl, ap, sym, ◌∙◌}
use mathlib.Core.Bool.{Bool, true, false, ◌&&◌}
use mathlib.Core.List.{List, [], ◌∷◌, ◌++◌}
use lib.Dec.{ltb}
use lib.ListN.{take, drop}
use borrow.Author.Tests.{ltb-true}
use Rattle.std.specs.List.{fold}
use Rattle.codec.specs.Bytes.{part}
use Rattle.codec.proofs.Choices.{both}
use Rattle.utf8.specs.Utf8.{plain, valid_from, valid, units_from, units}
use Rattle.utf8.specs.Claims.{PlainValid, PlainUnits}
use Rattle.utf8.proofs.Chars.{and_true}
use Rattle.utf8.proofs.Texts.{units_ahead, valid_ahead}

and_assoc : (x y z : Bool) → x && (y && z) ≡ (x && y) && z
and_assoc true y z = refl
and_assoc false y z = refl

pub plain_append : (a b : List ℕ) → plain (a ++ b) ≡ plain a && plain b
unfolding plain
plain_append [] b = refl
plain_append (x ∷ a) b = rw (plain_append a b) (and_assoc (ltb x 128) (plain a) (plain b))

plain_take : (n : ℕ) (l : List ℕ) → plain l ≡ true → plain (take n l) ≡ true
unfolding plain
plain_take zero l e = refl
plain_take (suc n) [] e = refl
plain_take (suc n) (x ∷ l) e = let p = both (ltb x 128) (plain l) e in rw p.0 (plain_take n l p.1)

plain_drop : (n : ℕ) (l : List ℕ) → plain l ≡ true → plain (drop n l) ≡ true
unfolding plain
plain_drop zero l e = e
plain_drop (suc n) [] e = refl
plain_drop (suc n) (x ∷ l) e = plain_drop n l (both (ltb x 128) (plain l) e).1

pub plain_part : (n at : ℕ) (l : List ℕ) → plain l ≡ true → plain (part n at l) ≡ true
unfolding part
plain_part n at l e = plain_take n (drop at l) (plain_drop at l e)

-- ---- such a text is valid and its own units

pub plain_valid : PlainValid
unfolding plain valid valid_from
plain_valid [] e = refl
plain_valid (x ∷ l) e = let p = both (ltb x 128) (plain l) e in valid_ahead x l (ltb-true x 128 p.0) ∙ plain_valid l p.1

pub plain_units : PlainUnits
unfolding plain units units_from
plain_units [] e = refl
plain_units (x ∷ l) e = let p = both (ltb x 128) (plain l) e in units_ahead x l (ltb-true x 128 p.0) ∙ ap (λ (us : List ℕ). x ∷ us) (plain_units l p.1)

-- ---- byte by byte: what was found so far, and all that is left

and_plain : (w : Bool) (l : List ℕ) → fold (λ w b. w && ltb b 128) w l ≡ w && plain l
unfolding plain
and_plain w [] = sym (and_true w)
and_plain w (b ∷ l) = and_plain (w && ltb b 128) l ∙ sym (and_assoc w (ltb b 128) (plain l))

pub all_plain : (l : List ℕ) {w : Bool} → w ≡ fold (λ w b. w && ltb b 128) true l → w ≡ plain l
all_plain l e = e ∙ and_plain true l
