-- The hash over the units of a text: one character more, a text of bytes below 128, joined texts. Assumes nothing.
use Rattle.std.proofs.Common.{Some, None, refl, ◌≡◌, ℕ, ◌+◌, ◌-◌, ◌/◌, ◌%◌, ◌<◌, ◌≤◌, Bool, true, List, [], ◌∷◌, length, drop, sym, ap, ◌∙◌, arith, length-drop, le-ltb, lt-ltb}
use Rattle.codec.specs.Choice.{pick}
use Rattle.utf8.specs.declared.Char.{Char}
use Rattle.utf8.specs.Utf8.{front, Decoded, units_of, units, valid, Known, plain}
use Rattle.utf8.proofs.Texts.{valid_turn, decoded_size, decoded_some, whole, units_turn, units_end, units_done, units_ahead, joined_units}
use Rattle.utf8.proofs.Plains.{plain_units}
use Rattle.java_hash.specs.Hash.{hash_from}
use Rattle.java_hash.specs.Claims.{HashJoined}
use Rattle.java_hash.proofs.HashLaws.{hash_append}

-- ---- a character

module _ (h u : ℕ) where
  pub one_unit : {r : ℕ} → u < 65536 → r ≡ hash_from h (u ∷ []) → r ≡ hash_from h (units_of u)
  unfolding units_of pick
  one_unit k e = rw (lt-ltb u 65536 k) e

  pub two_units : {g r : ℕ} → 65536 ≤ u → g ≡ hash_from h ((55296 + (u - 65536) / 1024) ∷ []) → r ≡ hash_from g ((56320 + (u - 65536) % 1024) ∷ []) → r ≡ hash_from h (units_of u)
  unfolding hash_from units_of pick
  two_units k e f = rw (le-ltb u 65536 k, ← e) f

-- ---- the turns of the loop: what is left from here gives the whole, and is a text exactly if the whole is one

pub record Left (start : ℕ) (s : List ℕ) (i h : ℕ) : Type 0 where
  pub inside : i ≤ length s
  pub text : valid (drop i s) ≡ valid s
  pub hash : hash_from h (units (drop i s)) ≡ hash_from start (units s)

pub left_all : (start : ℕ) (s : List ℕ) → Left start s 0 start
left_all start s = record { inside = omega arith; text = refl; hash = refl }

module _ (start : ℕ) (s : List ℕ) {i h : ℕ} (l : Left start s i h) where
  pub left_turn : {r : ℕ} {c : Char} → i < length s → Decoded s i (Some c) → r ≡ hash_from h (units_of c.code) → Left start s (i + c.size) r
  left_turn {r} {c} k d e =
      let n : c.size ≡ 0 → ⊥ = λ z. omega (arith, decoded_some s i k d) in
      record {
        inside = d.fits;
        text = sym (valid_turn s i k (decoded_size s i k d) n) ∙ l.text;
        hash = rw e (sym (hash_append h (units_of c.code) (units (drop (i + c.size) s)))) ∙ ap (hash_from h) (sym (units_turn s i k d)) ∙ l.hash;
      }

  pub left_stop : i < length s → Decoded s i None → h ≡ hash_from start (units s)
  unfolding hash_from
  left_stop k d = rw (units_end s i k d) at l.hash

  pub left_done : length s ≤ i → h ≡ hash_from start (units s)
  unfolding hash_from
  left_done k = rw (units_done s i k) at l.hash

-- at every place of a valid text a character stands
pub stands : (s : List ℕ) (i : ℕ) → valid s ≡ true → i < length s → valid (drop i s) ≡ valid s → 0 < (front (drop i s)).size
stands s i v k e = omega (arith, whole (drop i s) (rw length-drop (omega arith)) (e ∙ v))

-- ---- a text that is known to be of bytes below 128

pub plain_hash : (start : ℕ) (s : List ℕ) {r : ℕ} → plain s ≡ true → r ≡ hash_from start s → r ≡ hash_from start (units s)
plain_hash start s e f = f ∙ ap (hash_from start) (sym (plain_units s e))

pub known_hash : (start : ℕ) (s : List ℕ) {so : Bool} {r : ℕ} → Known so s → so ≡ true → r ≡ hash_from start s → r ≡ hash_from start (units s)
known_hash start s k e f = plain_hash start s (k.own e) f

-- ---- topic, `#`, key

pub hash_joined : HashJoined
hash_joined topic key v = rw (joined_units topic (35 ∷ key) v, units_ahead 35 key (omega arith))
