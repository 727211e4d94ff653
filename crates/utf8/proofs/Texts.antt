-- Texts: one character more, one byte below 128 more, joined texts. Assumes nothing.
use Prim.Native.Nat.{ℕ, zero, suc, ◌+◌, ◌-◌, ◌≤◌, ◌<◌}
use mathlib.Core.Path.{◌≡◌, refl, ap, sym, ◌∙◌}
use mathlib.Core.Bool.{true, false}
use mathlib.Core.List.{List, [], ◌∷◌, ◌++◌, append_assoc}
use native.Mathlib.Omega.{arith}
use lib.ListN.{length, drop, length-drop, length-append, drop_of_length-le}
use lib.Seq.{drop-drop, drop-append-le}
use borrow.Author.Tests.{lt-ltb, eq-eqb, ne_eqb}
use Rattle.std.specs.Prelude.{Some, None}
use Rattle.codec.specs.Choice.{pick}
use Rattle.utf8.specs.declared.Char.{Char}
use Rattle.utf8.specs.Utf8.{char, front, Decoded, units_of, valid_from, valid, units_from, units}
use Rattle.utf8.specs.Inner.{Behind}
use Rattle.utf8.specs.Claims.{JoinedValid, JoinedUnits}
use Rattle.utf8.proofs.Chars.{one_so, first1, front_fits, front_joined, found_is, not_found}

-- ---- bytes still to be passed

pred : (k : ℕ) → suc k - 1 ≡ k
pred k = omega arith

units_skip : (k : ℕ) (l : List ℕ) → units_from k l ≡ units (drop k l)
unfolding units_from units
units_skip zero l = refl
units_skip (suc k) [] = refl
units_skip (suc k) (b ∷ l) = units_skip k l

valid_skip : (k : ℕ) (l : List ℕ) → valid_from k l ≡ valid (drop k l)
unfolding valid_from valid
valid_skip zero l = refl
valid_skip (suc k) [] = refl
valid_skip (suc k) (b ∷ l) = valid_skip k l

-- ---- one character more

drop_pred : (n b : ℕ) (l : List ℕ) → (n ≡ 0 → ⊥) → drop (n - 1) l ≡ drop n (b ∷ l)
drop_pred zero b l h = absurd (h refl)
drop_pred (suc n) b l h = rw (pred n)

pub units_next : (l : List ℕ) → 0 < length l → ((front l).size ≡ 0 → ⊥) → units l ≡ units_of (front l).code ++ units (drop (front l).size l)
unfolding units units_from pick
units_next [] h n = absurd (omega arith)
units_next (b ∷ l) h n =
    rw (ne_eqb (front (b ∷ l)).size 0 n) (ap (λ (us : List ℕ). units_of (front (b ∷ l)).code ++ us) (units_skip ((front (b ∷ l)).size - 1) l ∙ ap units (drop_pred (front (b ∷ l)).size b l n)))

pub units_stop : (l : List ℕ) → 0 < length l → (front l).size ≡ 0 → units l ≡ []
unfolding units units_from pick
units_stop [] h e = absurd (omega arith)
units_stop (b ∷ l) h e = rw (eq-eqb (front (b ∷ l)).size 0 e)

pub valid_next : (l : List ℕ) → 0 < length l → ((front l).size ≡ 0 → ⊥) → valid l ≡ valid (drop (front l).size l)
unfolding valid valid_from pick
valid_next [] h n = absurd (omega arith)
valid_next (b ∷ l) h n =
    rw (ne_eqb (front (b ∷ l)).size 0 n) (valid_skip ((front (b ∷ l)).size - 1) l ∙ ap valid (drop_pred (front (b ∷ l)).size b l n))

pub valid_stop : (l : List ℕ) → 0 < length l → (front l).size ≡ 0 → valid l ≡ false
unfolding valid valid_from pick
valid_stop [] h e = absurd (omega arith)
valid_stop (b ∷ l) h e = rw (eq-eqb (front (b ∷ l)).size 0 e)

-- ---- the turns of the loops, over a text's rest from place i

module _ (s : List ℕ) (i : ℕ) (h : i < length s) where
  rest : 0 < length (drop i s)
  rest = rw length-drop (omega arith)

  pub valid_turn : {n : ℕ} → (front (drop i s)).size ≡ n → (n ≡ 0 → ⊥) → valid (drop i s) ≡ valid (drop (i + n) s)
  valid_turn {n} e m = valid_next (drop i s) rest (rw e m) ∙ rw (e, drop-drop n i s)

  pub valid_end : (front (drop i s)).size ≡ 0 → valid (drop i s) ≡ false
  valid_end e = valid_stop (drop i s) rest e

  module _ {c : Char} (d : Decoded s i (Some c)) where
    is_front : c ≡ front (drop i s)
    is_front = (found_is _ _ d.is).0

    pub decoded_size : (front (drop i s)).size ≡ c.size
    decoded_size = sym (ap (λ (x : Char). x.size) is_front)

    pub decoded_some : 0 < c.size
    decoded_some = rw (← decoded_size) (found_is _ _ d.is).1

    pub units_turn : units (drop i s) ≡ units_of c.code ++ units (drop (i + c.size) s)
    units_turn =
        let f : front (drop i s) ≡ c = sym is_front in
        let n : (front (drop i s)).size ≡ 0 → ⊥ = rw f (λ z. omega (arith, decoded_some)) in
        units_next (drop i s) rest n ∙ rw (f, drop-drop c.size i s)

  pub units_end : Decoded s i None → units (drop i s) ≡ []
  units_end d = units_stop (drop i s) rest (not_found _ d.is)

pub valid_done : (s : List ℕ) (i : ℕ) → length s ≤ i → valid (drop i s) ≡ true
unfolding valid valid_from
valid_done s i h = rw (drop_of_length-le s h)

pub units_done : (s : List ℕ) (i : ℕ) → length s ≤ i → units (drop i s) ≡ []
unfolding units units_from
units_done s i h = rw (drop_of_length-le s h)

-- ---- characters that were passed

pub behind_none : (s : List ℕ) (at : ℕ) → at ≤ length s → Behind s at at
behind_none s at h = record { on = omega arith; inside = h; left = refl }

onward : {s : List ℕ} {at i r : ℕ} → Behind s at i → Behind s i r → Behind s at r
onward b c = record { on = omega (arith, b.on, c.on); inside = c.inside; left = c.left ∙ b.left }

module _ (s : List ℕ) (at i : ℕ) (b : Behind s at i) where
  -- one more
  pub behind_more : {n : ℕ} → 0 < n → n ≤ length s - i → (front (drop i s)).size ≡ n → Behind s at (i + n)
  behind_more h k e = onward b (record { on = omega arith; inside = omega (arith, b.inside); left = sym (valid_turn s i (omega arith) e (λ z. omega arith)) })

  -- one that was decoded, and those like it
  pub behind_decoded : {c : Char} {r : ℕ} → i < length s → Decoded s i (Some c) → Behind s (i + c.size) r → Behind s at r
  behind_decoded h d = onward (behind_more (decoded_some s i h d) (omega (arith, d.fits)) (decoded_size s i h d))

-- from the front on: a place where none stands, the end
module _ (s : List ℕ) (i : ℕ) (b : Behind s 0 i) where
  pub none_behind : i < length s → Decoded s i None → false ≡ valid s
  none_behind h d = sym (valid_end s i h (not_found _ d.is)) ∙ b.left

  pub all_behind : length s ≤ i → true ≡ valid s
  all_behind h = sym (valid_done s i h) ∙ b.left

-- ---- a byte below 128 in front

plain_front : (x : ℕ) (l : List ℕ) → x < 128 → front (x ∷ l) ≡ char 1 x
unfolding front
plain_front x l h = first1 x _ _ _ (one_so x 0 0 0 h)

one_unit : (x : ℕ) → x < 128 → units_of x ≡ x ∷ []
unfolding units_of pick
one_unit x h = rw (lt-ltb x 65536 (omega arith))

module _ (x : ℕ) (l : List ℕ) (h : x < 128) where
  stands : (front (x ∷ l)).size ≡ 0 → ⊥
  stands = rw (plain_front x l h) (λ z. omega arith)

  pub units_ahead : units (x ∷ l) ≡ x ∷ units l
  units_ahead = units_next (x ∷ l) (omega arith) stands ∙ rw (plain_front x l h, one_unit x h)

  pub valid_ahead : valid (x ∷ l) ≡ valid l
  valid_ahead = valid_next (x ∷ l) (omega arith) stands ∙ rw (plain_front x l h)

-- ---- joined texts

-- at the front of a valid text a character stands
pub whole : (l : List ℕ) → 0 < length l → valid l ≡ true → (front l).size ≡ 0 → ⊥
whole l h v z = let e : valid l ≡ false = valid_stop l h z in let w : ◌≡◌ {A = ℕ} 0 1 = cc in omega arith

module _ (l b : List ℕ) (h : 0 < length l) (v : valid l ≡ true) where
  abbrev k : ℕ
  k = (front l).size

  some : k ≡ 0 → ⊥
  some = whole l h v

  same_front : front (l ++ b) ≡ front l
  same_front = front_joined l b h some

  longer : 0 < length (l ++ b)
  longer = rw length-append (omega arith)

  rest_joined : drop k (l ++ b) ≡ drop k l ++ b
  rest_joined = drop-append-le (front l).size l b (front_fits l h)

  rest_valid : valid (drop k l) ≡ true
  rest_valid = sym (valid_next l h some) ∙ v

  rest_shorter : length (drop k l) < length l
  rest_shorter = rw length-drop (omega (arith, some))

  units_step : units (drop k l ++ b) ≡ units (drop k l) ++ units b → units (l ++ b) ≡ units l ++ units b
  units_step e =
      let f = same_front in
      let m : (front (l ++ b)).size ≡ 0 → ⊥ = rw f some in
      units_next (l ++ b) longer m
      ∙ rw (f, rest_joined, e) (sym (append_assoc (units_of (front l).code) (units (drop (front l).size l)) (units b)))
      ∙ ap (λ (us : List ℕ). us ++ units b) (sym (units_next l h some))

  valid_step : valid (drop k l ++ b) ≡ valid b → valid (l ++ b) ≡ valid b
  valid_step e =
      let f = same_front in
      let m : (front (l ++ b)).size ≡ 0 → ⊥ = rw f some in
      valid_next (l ++ b) longer m ∙ rw (f, rest_joined) e

units_on : (a b : List ℕ) → valid a ≡ true → (0 < length a → units (drop (front a).size a ++ b) ≡ units (drop (front a).size a) ++ units b) → units (a ++ b) ≡ units a ++ units b
unfolding units units_from
units_on [] b v f = refl
units_on (x ∷ a) b v f = units_step (x ∷ a) b (omega arith) v (f (omega arith))

valid_on : (a b : List ℕ) → valid a ≡ true → (0 < length a → valid (drop (front a).size a ++ b) ≡ valid b) → valid (a ++ b) ≡ valid b
valid_on [] b v f = refl
valid_on (x ∷ a) b v f = valid_step (x ∷ a) b (omega arith) v (f (omega arith))

all_units : (n : ℕ) (a b : List ℕ) → length a ≤ n → valid a ≡ true → units (a ++ b) ≡ units a ++ units b
all_units zero a b h v = units_on a b v (λ p. absurd (omega arith))
all_units (suc n) a b h v = units_on a b v (λ p. all_units n (drop (front a).size a) b (omega (arith, rest_shorter a b p v)) (rest_valid a b p v))

all_valid : (n : ℕ) (a b : List ℕ) → length a ≤ n → valid a ≡ true → valid (a ++ b) ≡ valid b
all_valid zero a b h v = valid_on a b v (λ p. absurd (omega arith))
all_valid (suc n) a b h v = valid_on a b v (λ p. all_valid n (drop (front a).size a) b (omega (arith, rest_shorter a b p v)) (rest_valid a b p v))

-- behind a valid text, what follows decides; its units come behind
pub joined_units : JoinedUnits
joined_units a b v = all_units (length a) a b (omega arith) v

pub joined_valid : JoinedValid
joined_valid a b v = all_valid (length a) a b (omega arith) v
