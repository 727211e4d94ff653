-- Laws of the hash: joined strings, one byte more, eight bytes more, topic and key. Assumes nothing.
use Rattle.std.proofs.Common.{⊎_elim, ◌≡◌, ℕ, zero, suc, ◌+◌, ◌-◌, ◌*◌, ◌/◌, ◌%◌, ◌^◌, ◌<◌, ◌≤◌, Bool, true, false, eqb, ltb, List, [], ◌∷◌, ◌++◌, length, get_or, take, drop, sym, refl, ap, ◌∙◌, add-zero, mod-lt, mul_assoc, pow-suc, mul-add, mul_left_comm, add-one, mul_comm, arith, take-append-drop, take-add, ltb-false, ltb-true, le-ltb, lt-ltb, ne_eqb}
use native.Mathlib.Nat.{mod-add-div, add-mul-mod_self_left, mod-add-mod, add-mod-mod}
use borrow.Author.Tests.{eqb-false}
use Rattle.std.proofs.lemmas.Int.{to_z_pos, of_z-to_z}
use Rattle.std.proofs.lemmas.Bool.{cases_lt, cases_eq}
use lib.IntN.{ℤ, pos, negsuc, neg_ℤ, nat_abs}
use mir.Syntax.{w32, w64}
use mir.Val.{to_z, of_z, SFits}
use Rattle.std.specs.Prelude.{Option, Some, None, unwrap_or}
use Rattle.std.specs.Option.{SomeIff}
use Rattle.std.specs.List.{fold}
use Rattle.std.specs.Simd.{first_chunks}
use Rattle.codec.specs.Choice.{pick}
use Rattle.utf8.specs.Utf8.{units}
use Rattle.java_hash.specs.Hash.{hash_from, hash_of, plus, minus, signed, carried, absolute, tag_code, topic_hash, key_hash, index_hash, slot_of}
use Rattle.java_hash.specs.Claims.{KeyHash, KeyHashSmall, IndexHashSmall, SlotWithin}

-- ---- joined strings

pub hash_append : (h : ℕ) (a b : List ℕ) → hash_from h (a ++ b) ≡ hash_from (hash_from h a) b
unfolding hash_from
hash_append h [] b = refl
hash_append h (x ∷ a) b = hash_append ((31 * h + x) % 4294967296) a b

-- topic and `#` first, then the key
pub key_hash_is : KeyHash
unfolding key_hash topic_hash index_hash hash_from
key_hash_is topic key =
    ap (λ (h : ℕ). absolute (signed h))
    (ap (λ (h : ℕ). hash_from h (units key)) (hash_append 0 (units topic) (35 ∷ [])) ∙ sym (hash_append 0 (units topic) (35 ∷ units key)))

pub topic_step : (h r : ℕ) (topic : List ℕ) {mark : ℕ} → h ≡ hash_from 0 (units topic) → mark ≡ 35 → r ≡ hash_from h (mark ∷ []) → r ≡ topic_hash topic
unfolding topic_hash
topic_step h r topic e m f = f ∙ rw (e, m) (sym (hash_append 0 (units topic) (35 ∷ [])))

-- the hash of the key's units, from its topic's hash; and of the tags'
pub key_step : (prefix h r : ℕ) (key : List ℕ) → h ≡ hash_from prefix (units key) → r ≡ absolute (signed h) → r ≡ key_hash prefix key
unfolding key_hash
key_step prefix h r key e f = f ∙ rw e

pub tag_step : (h r : ℕ) (tags : List ℕ) → h ≡ hash_from 0 (units tags) → r ≡ carried (signed h) → r ≡ tag_code tags
unfolding tag_code hash_of
tag_step h r tags e f = f ∙ rw e

-- ---- several bytes in one turn

-- a remainder in a product may be left out
absorb : (m c x y : ℕ) → (c * (x % m) + y) % m ≡ (c * x + y) % m
absorb m c x y =
    let e : c * x + y ≡ (c * (x % m) + y) + m * (c * (x / m))
    = omega (arith, ap (λ (n : ℕ). c * n) (mod-add-div x m), mul-add c (x % m) (m * (x / m)), mul_left_comm c m (x / m)) in
    sym (ap (λ (n : ℕ). n % m) e ∙ add-mul-mod_self_left (c * (x % m) + y) m (c * (x / m)))

-- times 31 once more
pub times_more : (n h : ℕ) {x r : ℕ} → x ≡ 31 ^ n * h % 4294967296 → r ≡ 31 * x % 4294967296 → r ≡ 31 ^ (n + 1) * h % 4294967296
times_more n h e f =
    let more : 31 * (31 ^ n * h) ≡ 31 ^ (n + 1) * h = sym (mul_assoc 31 (31 ^ n) h) ∙ rw (add-one, pow-suc, mul_comm 31 (31 ^ n)) in
    f ∙ ap (λ (x : ℕ). 31 * x % 4294967296) e ∙ simp add-zero at (absorb 4294967296 31 (31 ^ n * h) 0) ∙ ap (λ (x : ℕ). x % 4294967296) more

pub times_none : (h : ℕ) → h < 4294967296 → h ≡ 31 ^ 0 * h % 4294967296
times_none h k = omega arith

pub times_all : (i n h y : ℕ) {x : ℕ} → i ≡ n → x ≡ 31 ^ i * h % 4294967296 → (x + y) % 4294967296 ≡ (31 ^ n * h + y) % 4294967296
times_all i n h y e f = rw (f, e) (mod-add-mod (31 ^ n * h) 4294967296 y)

pub one_more : (h u : ℕ) {b r : ℕ} → b ≡ 31 * h % 4294967296 → r ≡ (b + u) % 4294967296 → r ≡ hash_from h (u ∷ [])
unfolding hash_from
one_more h u e f = f ∙ rw e (mod-add-mod (31 * h) 4294967296 u)

hash_lt : (h : ℕ) (us : List ℕ) → h < 4294967296 → hash_from h us < 4294967296
unfolding hash_from
hash_lt h [] k = k
hash_lt h (u ∷ us) k = hash_lt ((31 * h + u) % 4294967296) us (omega arith)

-- what a hash owes to its start: 31 times it for each unit
shares : (h : ℕ) (us : List ℕ) → h < 4294967296 → hash_from h us ≡ (31 ^ length us * h + hash_from 0 us) % 4294967296
unfolding hash_from
shares h [] k = omega arith
shares h (u ∷ us) k =
    let from : (x : ℕ) → hash_from (x % 4294967296) us ≡ (31 ^ length us * x + hash_from 0 us) % 4294967296
    = λ x. shares (x % 4294967296) us (omega arith) ∙ absorb 4294967296 (31 ^ length us) x (hash_from 0 us) in
    let split : 31 ^ length us * (31 * h + u) + hash_from 0 us ≡ 31 ^ suc (length us) * h + (31 ^ length us * (0 + u) + hash_from 0 us)
    = omega (arith, mul-add (31 ^ length us) (31 * h) u, mul_assoc (31 ^ length us) 31 h, ap (λ (x : ℕ). x * h) (pow-suc 31 (length us))) in
    from (31 * h + u) ∙ ap (λ (x : ℕ). x % 4294967296) split
    ∙ sym (ap (λ (x : ℕ). (31 ^ suc (length us) * h + x) % 4294967296) (from (0 + u)) ∙ add-mod-mod (31 ^ suc (length us) * h) (31 ^ length us * (0 + u) + hash_from 0 us) 4294967296)

-- units more, by their own hash
pub onward : (h : ℕ) (us : List ℕ) (n : ℕ) {c r : ℕ} → h < 4294967296 → length us ≡ n → c ≡ hash_from 0 us → r ≡ (31 ^ n * h + c) % 4294967296 → r ≡ hash_from h us
onward h us n k l e f = f ∙ rw (e, ← l) (sym (shares h us k))

pub both_units : (s : List ℕ) {x y r : ℕ} → length s ≡ 2 → get_or s 0 0 < 256 → x ≡ get_or s 0 0 → y ≡ get_or s 1 0 → r ≡ (31 ^ 1 * x + y) % 4294967296 → r ≡ hash_from 0 s
unfolding hash_from
both_units [] l k p q e = absurd (omega arith)
both_units (a ∷ []) l k p q e = absurd (omega arith)
both_units (a ∷ b ∷ []) l k p q e = omega arith
both_units (a ∷ b ∷ c ∷ s) l k p q e = absurd (omega arith)

-- the front's hash, then the back's
pub halves : (s : List ℕ) (n m : ℕ) {a b r : ℕ} {front back : List ℕ} → front ≡ take n s → back ≡ drop n s → length back ≡ m → a ≡ hash_from 0 front → b ≡ hash_from 0 back
    → r ≡ (31 ^ m * a + b) % 4294967296 → r ≡ hash_from 0 s
halves s n m {back = back} p q l d e f =
    onward _ back m (rw d (hash_lt 0 _ (omega arith))) l e f ∙ rw (d, p, q) (sym (hash_append 0 (take n s) (drop n s))) ∙ ap (hash_from 0) (take-append-drop n s)

-- ---- unit by unit, and eight at once

pub fold_units : (h : ℕ) (s : List ℕ) → fold (λ h u. hash_from h (u ∷ [])) h s ≡ hash_from h s
unfolding hash_from
fold_units h [] = refl
fold_units h (u ∷ s) = fold_units ((31 * h + u) % 4294967296) s

pub fold_eights : (k h : ℕ) (s : List ℕ) → fold hash_from h (first_chunks 8 k s) ≡ hash_from h (take (8 * k) s)
unfolding hash_from
fold_eights zero h s = refl
fold_eights (suc k) h s =
    let e : 8 * suc k ≡ 8 + 8 * k = omega arith in
    fold_eights k (hash_from h (take 8 s)) (drop 8 s) ∙ rw (e, take-add 8 (8 * k) s) (sym (hash_append h (take 8 s) (take (8 * k) (drop 8 s))))

-- the eights, then the rest
pub eights_rest : (start : ℕ) (s : List ℕ) {h r : ℕ} {eights : List (List ℕ)} {rest : List ℕ} → eights ≡ first_chunks 8 (length s / 8) s → rest ≡ drop (length s / 8 * 8) s
    → h ≡ fold hash_from start eights → r ≡ fold (λ h u. hash_from h (u ∷ [])) h rest → r ≡ hash_from start s
eights_rest start s {h} {rest = rest} p q e f =
    let n : length s / 8 * 8 ≡ 8 * (length s / 8) = omega arith in
    let g : h ≡ hash_from start (take (8 * (length s / 8)) s) = e ∙ rw p (fold_eights (length s / 8) start s) in
    f ∙ fold_units h rest ∙ rw (g, q, n) (sym (hash_append start (take (8 * (length s / 8)) s) (drop (8 * (length s / 8)) s))) ∙ ap (hash_from start) (take-append-drop (8 * (length s / 8)) s)

-- ---- the signed number

-- the bits h read as a signed number: itself, or so far below 0
module _ (h : ℕ) (k : h < 4294967296) where
  read_plus : h < 2147483648 → to_z w32 h ≡ pos h
  read_plus l = to_z_pos w32 h l

  read_minus : 2147483648 ≤ h → to_z w32 h ≡ negsuc (4294967295 - h)
  read_minus l = rw (le-ltb h 2147483648 l) (ap (λ (n : ℕ). negsuc n) (omega arith))

  -- read again it is the same
  again : {z : ℤ} → z ≡ to_z w32 h → to_z w32 (of_z w32 z) ≡ to_z w32 h
  again e = rw (e, of_z-to_z w32 h k)

  carry_of : {y : ℤ} {r : ℕ} → y ≡ to_z w32 h → r ≡ of_z w64 (to_z w64 (of_z w64 y)) → r ≡ carried (signed h)
  unfolding carried signed pick
  carry_of {y} {r} e f = ⊎_elim plus_so minus_so (cases_lt h 2147483648)
    where
      plus_so : h < 2147483648 → r ≡ carried (signed h)
      plus_so l = f ∙ rw (e, read_plus l, of_z-to_z w64 h (omega arith), lt-ltb h 2147483648 l)

      minus_so : 2147483648 ≤ h → r ≡ carried (signed h)
      minus_so l = f ∙ rw (e, read_minus l, of_z-to_z w64 (18446744073709551616 - suc (4294967295 - h)) (omega arith), le-ltb h 2147483648 l) (omega arith)

  pub carry_is : {z y : ℤ} {r : ℕ} → z ≡ to_z w32 h → y ≡ to_z w32 (of_z w32 z) → r ≡ of_z w64 (to_z w64 (of_z w64 y)) → r ≡ carried (signed h)
  carry_is e f g = carry_of (f ∙ again e) g

-- what a checked call gives where it can, and that it gives nothing where it cannot
given : (o : Option ℤ) (v : ℤ) {P : Type 0} → SomeIff o P v → P → unwrap_or o (pos 0) ≡ v
given None v s p = absurd (s p)
given (Some x) v s p = s.1

withheld : (o : Option ℤ) (v : ℤ) {P : Type 0} → SomeIff o P v → ¬ P → unwrap_or o (pos 0) ≡ pos 0
withheld None v s n = refl
withheld (Some x) v s n = absurd (n s.0)

opposite_fits : (n : ℕ) → n < 2147483648 → SFits w32 (neg_ℤ (pos n))
opposite_fits zero l = record { sfits = omega arith }
opposite_fits (suc n) l = record { sfits = omega arith }

module _ (h : ℕ) (k : h < 4294967296) (o : Option ℤ) where
  abbrev Checked : ℤ → Type 0
  Checked z = SomeIff o (SFits w32 (neg_ℤ z)) (pos (nat_abs z))

  found_plus : h < 2147483648 → Checked (to_z w32 h) → unwrap_or o (pos 0) ≡ pos h
  found_plus l s = given o (pos h) (rw (read_plus h k l) at s) (opposite_fits h l)

  found_least : h ≡ 2147483648 → Checked (to_z w32 h) → unwrap_or o (pos 0) ≡ pos 0
  found_least e s = withheld o _ (rw (read_minus h k (omega arith)) at s) (λ q. let m = q.sfits in omega arith)

  found_minus : 2147483648 < h → Checked (to_z w32 h) → unwrap_or o (pos 0) ≡ pos (4294967296 - h)
  found_minus l s =
      given o _ (rw (read_minus h k (omega arith)) at s) (record { sfits = omega arith })
      ∙ ap (λ (n : ℕ). pos n) (omega arith)

  absolute_of : {u : ℤ} {r : ℕ} → Checked (to_z w32 h) → u ≡ unwrap_or o (pos 0) → r ≡ of_z w32 (to_z w32 (of_z w32 u)) → r ≡ absolute (signed h)
  unfolding absolute signed pick
  absolute_of {u} {r} s e f = ⊎_elim plus_so (λ m. ⊎_elim least_so (λ n. minus_so (omega arith)) (cases_eq h 2147483648)) (cases_lt h 2147483648)
    where
      read : (n : ℕ) → n < 2147483648 → unwrap_or o (pos 0) ≡ pos n → r ≡ n
      read n l p = f ∙ rw (e, p) (of_z-to_z w32 n (omega arith))

      plus_so : h < 2147483648 → r ≡ absolute (signed h)
      plus_so l = read h l (found_plus l s) ∙ rw (lt-ltb h 2147483648 l)

      least_so : h ≡ 2147483648 → r ≡ absolute (signed h)
      least_so m = read 0 (omega arith) (found_least m s) ∙ rw m

      minus_so : 2147483648 < h → r ≡ absolute (signed h)
      minus_so l =
          let n : eqb (4294967296 - h) 2147483648 ≡ false = ne_eqb (4294967296 - h) 2147483648 (λ q. omega arith) in
          read (4294967296 - h) (omega arith) (found_minus l s) ∙ rw (le-ltb h 2147483648 (omega arith), n)

  pub absolute_is : {z u : ℤ} {r : ℕ} → z ≡ to_z w32 h → Checked (to_z w32 (of_z w32 z)) → u ≡ unwrap_or o (pos 0) → r ≡ of_z w32 (to_z w32 (of_z w32 u)) → r ≡ absolute (signed h)
  absolute_is e s f g = absolute_of (rw (again h k e) at s) f g

absolute_lt : (h : ℕ) → h < 4294967296 → absolute (signed h) < 2147483648
unfolding absolute signed pick
absolute_lt h k = go (ltb h 2147483648) refl
  where
    least : (t : Bool) → eqb (4294967296 - h) 2147483648 ≡ t → 2147483648 ≤ h → pick t 0 (4294967296 - h) < 2147483648
    least true e l = omega arith
    least false e l = let d = eqb-false (4294967296 - h) 2147483648 e in omega arith

    go : (t : Bool) → ltb h 2147483648 ≡ t → absolute (pick t (plus h) (minus (4294967296 - h))) < 2147483648
    go true e = ltb-true h 2147483648 e
    go false e = least (eqb (4294967296 - h) 2147483648) refl (ltb-false h 2147483648 e)

pub key_hash_small : KeyHashSmall
unfolding key_hash
key_hash_small prefix key k = absolute_lt (hash_from prefix (units key)) (hash_lt prefix (units key) k)

pub index_hash_small : IndexHashSmall
unfolding index_hash
index_hash_small topic key = absolute_lt (hash_from 0 (units topic ++ 35 ∷ units key)) (hash_lt 0 (units topic ++ 35 ∷ units key) (omega arith))

pub slot_within : SlotWithin
unfolding slot_of
slot_within k hash h = mod-lt hash h
