-- One character: its leading ones, the tests of its bytes, its size. Assumes nothing.
use Prim.Native.Nat.{ℕ, zero, suc, ◌+◌, ◌-◌, ◌*◌, ◌/◌, ◌%◌, ◌≤◌, ◌<◌}
use mathlib.Core.Path.{◌≡◌, refl, ap, sym, subst, ◌∙◌}
use mathlib.Core.Bool.{Bool, true, false, not, ◌&&◌, ◌||◌}
use mathlib.Core.List.{List, ◌++◌}
use mathlib.Core.Logic.{⊎_elim}
use native.Mathlib.Nat.{eq-or-lt_of_le}
use native.Mathlib.Omega.{arith}
use lib.Count.{count_leading_zeros}
use lib.Dec.{ltb, leb, eqb}
use lib.Seq.{get_or-drop}
use lib.ListN.{length, get_or, drop, length-drop, get_or-eq_default, get_or-append}
use borrow.Author.Tests.{eq-eqb, ne_eqb, eqb-true, eqb-false, ltb-true, ltb-false, leb-true, lt-ltb, le-ltb, le-leb, lt-leb}
use Rattle.std.specs.Bool.{then_some}
use Rattle.std.specs.Prelude.{Option, Some, None, IfSome}
use Rattle.std.proofs.lemmas.Option.{none-some, same_Some}
use Rattle.codec.specs.Choice.{pick}
use Rattle.codec.proofs.Choices.{both}
use Rattle.utf8.specs.declared.Char.{Char}
use Rattle.utf8.specs.Utf8.{range, tail, one, two, three, four, char, none, found, first, front, Decoded}
use Rattle.utf8.specs.Inner.{leading_ones, by_leading_ones}

-- ---- leading ones

-- the test holds of the numbers below n, which antt computes for all the bytes
unfoldable pub every : ℕ → (ℕ → Bool) → Bool
every zero f = true
every (suc n) f = f n && every n f

pub every_at : (n : ℕ) (f : ℕ → Bool) → every n f ≡ true → (b : ℕ) → b < n → f b ≡ true
unfolding every
every_at zero f e b h = absurd (omega arith)
every_at (suc n) f e b h =
    let p = both (f n) (every n f) e in
    let m : b ≤ n = omega arith in
    ⊎_elim (λ q. rw q p.0) (every_at n f p.1 b) (eq-or-lt_of_le m)

-- the leading zeros of the inverted byte
pub leading : (b : ℕ) → b < 256 → count_leading_zeros 8 (255 - b) ≡ leading_ones b
unfolding every pick leading_ones count_leading_zeros
leading b h = eqb-true _ _ (every_at 256 (λ b. eqb (count_leading_zeros 8 (255 - b)) (leading_ones b)) refl b h)

-- ---- by cases of a number

below_or : (a n : ℕ) (P : Type 0) → (a < n → P) → (n ≤ a → P) → P
below_or a n P f g = go (ltb a n) refl
  where
    go : (t : Bool) → ltb a n ≡ t → P
    go true e = f (ltb-true a n e)
    go false e = g (ltb-false a n e)

same_or : (a n : ℕ) (P : Type 0) → (a ≡ n → P) → ((a ≡ n → ⊥) → P) → P
same_or a n P f g = go (eqb a n) refl
  where
    go : (t : Bool) → eqb a n ≡ t → P
    go true e = f (eqb-true a n e)
    go false e = g (eqb-false a n e)

-- ---- ranges

module _ (low high b : ℕ) where
  within : low ≤ b → b ≤ high → range low high b ≡ true
  unfolding range
  within h k = rw (le-leb low b h, le-leb b high k)

  under : b < low → range low high b ≡ false
  unfolding range
  under h = rw (lt-leb low b h)

  over : high < b → range low high b ≡ false
  unfolding range
  over h = go (leb low b)
    where
      go : (t : Bool) → t && leb b high ≡ false
      go true = lt-leb b high h
      go false = refl

  pub bounds : range low high b ≡ true → (low ≤ b) × (b ≤ high)
  unfolding range
  bounds e = let p = both _ _ e in (leb-true low b p.0, leb-true b high p.1)

-- ---- the first byte tells the row

module _ (a b c d : ℕ) where
  pub one_so : a < 128 → one a ≡ true
  unfolding one
  one_so h = within 0 127 a (omega arith) (omega arith)

  one_not : 128 ≤ a → one a ≡ false
  unfolding one
  one_not h = over 0 127 a (omega arith)

  two_under : a < 194 → two a b ≡ false
  unfolding two
  two_under h = rw (under 194 223 a h)

  two_over : 223 < a → two a b ≡ false
  unfolding two
  two_over h = rw (over 194 223 a h)

  three_under : a < 224 → three a b c ≡ false
  unfolding three
  three_under h = rw (under 224 224 a h, under 225 236 a (omega arith), under 237 237 a (omega arith), under 238 239 a (omega arith))

  three_over : 239 < a → three a b c ≡ false
  unfolding three
  three_over h = rw (over 224 224 a (omega arith), over 225 236 a (omega arith), over 237 237 a (omega arith), over 238 239 a h)

  four_under : a < 240 → four a b c d ≡ false
  unfolding four
  four_under h = rw (under 240 240 a h, under 241 243 a (omega arith), under 244 244 a (omega arith))

  four_over : 244 < a → four a b c d ≡ false
  unfolding four
  four_over h = rw (over 240 240 a (omega arith), over 241 243 a (omega arith), over 244 244 a h)

  abbrev Same : ℕ → Type 0
  Same n = by_leading_ones n a b c d ≡ first a b c d

  -- no row: a byte of 80 to BF, or of F8 to FF, stands first
  stray : (n : ℕ) → n ≡ 1 → 128 ≤ a → a < 192 → Same n
  unfolding by_leading_ones first pick
  stray n e h k = rw (e, one_not h, two_under (omega arith), three_under (omega arith), four_under (omega arith))

  beyond : (n : ℕ) → by_leading_ones n a b c d ≡ none → 248 ≤ a → Same n
  unfolding first pick
  beyond n e h = rw (e, one_not (omega arith), two_over (omega arith), three_over (omega arith), four_over (omega arith))

  row1 : a < 128 → Same 0
  unfolding by_leading_ones first pick
  row1 h = rw (one_so h)

  row2 : 192 ≤ a → a < 224 → Same 2
  unfolding by_leading_ones first pick
  row2 h k = rw (one_not (omega arith), three_under k, four_under (omega arith))

  row3 : 224 ≤ a → a < 240 → Same 3
  unfolding by_leading_ones first pick
  row3 h k = rw (one_not (omega arith), two_over (omega arith), four_under k)

  row4 : 240 ≤ a → a < 248 → Same 4
  unfolding by_leading_ones first pick
  row4 h k = rw (one_not (omega arith), two_over (omega arith), three_over (omega arith))

  -- more than four leading ones
  tops : (t u v : Bool) → by_leading_ones (pick t 5 (pick u 6 (pick v 7 8))) a b c d ≡ none
  unfolding by_leading_ones pick
  tops true u v = refl
  tops false true v = refl
  tops false false true = refl
  tops false false false = refl

  -- by leading ones, or by the rows in order: the same character
  pub by_ones : by_leading_ones (leading_ones a) a b c d ≡ first a b c d
  unfolding leading_ones pick
  by_ones =
      below_or a 128 (Same (leading_ones a)) (λ h. rw (lt-ltb a 128 h) (row1 h)) (λ h₁.
      below_or a 192 (Same (leading_ones a)) (λ h. rw (le-ltb a 128 h₁, lt-ltb a 192 h) (stray 1 refl h₁ h)) (λ h₂.
      below_or a 224 (Same (leading_ones a)) (λ h. rw (le-ltb a 128 h₁, le-ltb a 192 h₂, lt-ltb a 224 h) (row2 h₂ h)) (λ h₃.
      below_or a 240 (Same (leading_ones a)) (λ h. rw (le-ltb a 128 h₁, le-ltb a 192 h₂, le-ltb a 224 h₃, lt-ltb a 240 h) (row3 h₃ h)) (λ h₄.
      below_or a 248 (Same (leading_ones a)) (λ h. rw (le-ltb a 128 h₁, le-ltb a 192 h₂, le-ltb a 224 h₃, le-ltb a 240 h₄, lt-ltb a 248 h) (row4 h₄ h)) (λ h₅.
      rw (le-ltb a 128 h₁, le-ltb a 192 h₂, le-ltb a 224 h₃, le-ltb a 240 h₄, le-ltb a 248 h₅)
      (beyond _ (tops (ltb a 252) (ltb a 254) (ltb a 255)) h₅))))))

-- ---- the rows as the code tests them

pub two_is : (a b : ℕ) {t : Bool} → t ≡ tail b → (leb 194 a && leb a 223) && t ≡ two a b
unfolding two range
two_is a b e = rw e

-- a bound of the second byte, which one first byte has by itself
pub own_bound : (a k x y : ℕ) {v : ℕ} → a ≡ k → v ≡ x → v ≡ pick (eqb a k) x y
unfolding pick
own_bound a k x y e f = f ∙ rw (eq-eqb a k e)

pub common_bound : (a k x y : ℕ) {v : ℕ} → (a ≡ k → ⊥) → v ≡ y → v ≡ pick (eqb a k) x y
unfolding pick
common_bound a k x y n f = f ∙ rw (ne_eqb a k n)

or_none : (x : Bool) → x ≡ x || false
or_none true = refl
or_none false = refl

-- the row of three bytes: the first byte's four bits, and the highest of the second byte's six
abbrev row : ℕ → ℕ → ℕ
row a b = a % 16 * 2 + b / 32 % 2

-- which of the second bytes the rows 0 and 27 leave
module _ (b : ℕ) where
  abbrev Left : ℕ → ℕ → ℕ → Type 0
  Left a low high = (tail b && not (eqb (row a b) 0)) && not (eqb (row a b) 27) ≡ range low high b

  left_e0 : Left 224 160 191
  unfolding tail
  left_e0 =
      below_or b 128 (Left 224 160 191) (λ h. rw (under 128 191 b h, under 160 191 b (omega arith))) (λ h₁.
      below_or b 160 (Left 224 160 191) (λ h. rw (within 128 191 b h₁ (omega arith), under 160 191 b h, eq-eqb (row 224 b) 0 (omega arith))) (λ h₂.
      below_or b 192 (Left 224 160 191) (λ h. rw (within 128 191 b h₁ (omega arith), within 160 191 b h₂ (omega arith), ne_eqb (row 224 b) 0 (λ e. omega arith), ne_eqb (row 224 b) 27 (λ e. omega arith))) (λ h.
      rw (over 128 191 b h, over 160 191 b h))))

  left_ed : Left 237 128 159
  unfolding tail
  left_ed =
      below_or b 128 (Left 237 128 159) (λ h. rw (under 128 191 b h, under 128 159 b h)) (λ h₁.
      below_or b 160 (Left 237 128 159) (λ h. rw (within 128 191 b h₁ (omega arith), within 128 159 b h₁ (omega arith), ne_eqb (row 237 b) 0 (λ e. omega arith), ne_eqb (row 237 b) 27 (λ e. omega arith))) (λ h₂.
      below_or b 192 (Left 237 128 159) (λ h. rw (within 128 191 b h₁ (omega arith), over 128 159 b h₂, ne_eqb (row 237 b) 0 (λ e. omega arith), eq-eqb (row 237 b) 27 (omega arith))) (λ h.
      rw (over 128 191 b h, over 128 159 b h₂))))

pub and_true : (x : Bool) → x && true ≡ x
and_true true = refl
and_true false = refl

and_false : (x : Bool) → x && false ≡ false
and_false true = refl
and_false false = refl

-- the third byte's test comes last
tail_last : (x y p q : Bool) → ((x && y) && p) && q ≡ ((x && p) && q) && y
tail_last true true p q = sym (and_true (p && q))
tail_last true false p q = sym (and_false (p && q))
tail_last false y p q = refl

narrow : (a b c low high : ℕ) → Left b a low high → ((tail b && tail c) && not (eqb (row a b) 0)) && not (eqb (row a b) 27) ≡ range low high b && tail c
narrow a b c low high e = tail_last (tail b) (tail c) (not (eqb (row a b) 0)) (not (eqb (row a b) 27)) ∙ ap (λ (x : Bool). x && tail c) e

module _ (a b c : ℕ) where
  abbrev Compact3 : Type 0
  Compact3 = (((range 224 239 a && tail b) && tail c) && not (eqb (row a b) 0)) && not (eqb (row a b) 27) ≡ three a b c

  -- in the other rows neither test refuses
  wide : (a ≡ 224 → ⊥) → (a ≡ 237 → ⊥) → 224 ≤ a → a < 240 → ((tail b && tail c) && not (eqb (row a b) 0)) && not (eqb (row a b) 27) ≡ tail b && tail c
  wide n m h k =
      rw (ne_eqb (row a b) 0 (λ e. omega arith), ne_eqb (row a b) 27 (λ e. omega arith))
      (and_true ((tail b && tail c) && true) ∙ and_true (tail b && tail c))

  e0 : a ≡ 224 → Compact3
  unfolding three range
  e0 e = rw e (narrow 224 b c 160 191 (left_e0 b) ∙ or_none (range 160 191 b && tail c))

  e1_ec : 225 ≤ a → a < 237 → Compact3
  unfolding three
  e1_ec h k =
      rw (within 224 239 a (omega arith) (omega arith), over 224 224 a (omega arith), within 225 236 a h (omega arith), under 237 237 a (omega arith), under 238 239 a (omega arith))
      (wide (λ e. omega arith) (λ e. omega arith) (omega arith) (omega arith) ∙ or_none (tail b && tail c))

  ed : a ≡ 237 → Compact3
  unfolding three range
  ed e = rw e (narrow 237 b c 128 159 (left_ed b) ∙ or_none (range 128 159 b && tail c))

  ee_ef : 238 ≤ a → a < 240 → Compact3
  unfolding three
  ee_ef h k =
      rw (within 224 239 a (omega arith) (omega arith), over 224 224 a (omega arith), over 225 236 a (omega arith), over 237 237 a (omega arith), within 238 239 a h (omega arith))
      (wide (λ e. omega arith) (λ e. omega arith) (omega arith) k)

  compact3 : Compact3
  compact3 =
      below_or a 224 Compact3 (λ h. rw (under 224 239 a h) (sym (three_under a b c 0 h))) (λ h₁.
      below_or a 225 Compact3 (λ h. e0 (omega arith)) (λ h₂.
      below_or a 237 Compact3 (e1_ec h₂) (λ h₃.
      below_or a 238 Compact3 (λ h. ed (omega arith)) (λ h₄.
      below_or a 240 Compact3 (ee_ef h₄) (λ h. rw (over 224 239 a h) (sym (three_over a b c 0 h)))))))

  pub three_is : {t u : Bool} → t ≡ tail b → u ≡ tail c → ((((leb 224 a && leb a 239) && t) && u) && not (eqb (row a b) 0)) && not (eqb (row a b) 27) ≡ three a b c
  unfolding range
  three_is p q = rw (p, q) compact3

module _ (a b c d : ℕ) where
  abbrev Compact4 : Type 0
  Compact4 = ((range 240 244 a && range (pick (eqb a 240) 144 128) (pick (eqb a 244) 143 191) b) && tail c) && tail d ≡ four a b c d

  f0 : a ≡ 240 → Compact4
  unfolding four range pick
  f0 e = rw e (or_none (((leb 144 b && leb b 191) && tail c) && tail d))

  f1_f3 : 241 ≤ a → a < 244 → Compact4
  unfolding four tail pick
  f1_f3 h k =
      rw (within 240 244 a (omega arith) (omega arith), ne_eqb a 240 (λ e. omega arith), ne_eqb a 244 (λ e. omega arith), over 240 240 a (omega arith), within 241 243 a h (omega arith), under 244 244 a (omega arith))
      (or_none ((range 128 191 b && range 128 191 c) && range 128 191 d))

  f4 : a ≡ 244 → Compact4
  unfolding four range pick
  f4 e = rw e

  compact4 : Compact4
  compact4 =
      below_or a 240 Compact4 (λ h. rw (under 240 244 a h) (sym (four_under a b c d h))) (λ h₁.
      below_or a 241 Compact4 (λ h. f0 (omega arith)) (λ h₂.
      below_or a 244 Compact4 (f1_f3 h₂) (λ h₃.
      below_or a 245 Compact4 (λ h. f4 (omega arith)) (λ h. rw (over 240 244 a h) (sym (four_over a b c d h))))))

  pub four_is : {low high : ℕ} {t u : Bool} → low ≡ pick (eqb a 240) 144 128 → high ≡ pick (eqb a 244) 143 191 → t ≡ tail c → u ≡ tail d
      → (((leb 240 a && leb a 244) && (leb low b && leb b high)) && t) && u ≡ four a b c d
  unfolding range
  four_is p q e f = rw (p, q, e, f) compact4

-- ---- a character that was found

pub found_some : (c : Char) → 0 < c.size → found c ≡ Some c
unfolding found pick
found_some c h = rw (ne_eqb c.size 0 (λ e. omega arith))

found_none : (c : Char) → c.size ≡ 0 → found c ≡ None
unfolding found pick
found_none c h = rw (eq-eqb c.size 0 h)

-- what stands is what was found, and nothing stands where none was
pub found_is : (c d : Char) → Some c ≡ found d → (c ≡ d) × (0 < d.size)
found_is c d e =
    same_or d.size 0 ((c ≡ d) × (0 < d.size)) (λ z. absurd (none-some c (sym (found_none d z) ∙ sym e))) (λ n.
    let h : 0 < d.size = omega arith in (same_Some c d (e ∙ found_some d h), h))

pub not_found : (d : Char) → None ≡ found d → d.size ≡ 0
not_found d e = same_or d.size 0 (d.size ≡ 0) (λ z. z) (λ n. absurd (none-some d (e ∙ found_some d (omega arith))))

-- a row's character, if its bytes are one
found_if : (t : Bool) (k u : ℕ) {z : Char} {r : Option Char} → z ≡ char (suc k) u → r ≡ then_some t z → r ≡ found (pick t (char (suc k) u) none)
unfolding pick
found_if true k u e f = f ∙ ap (λ (x : Char). Some x) e ∙ sym (found_some (char (suc k) u) (omega arith))
found_if false k u e f = f ∙ sym (found_none none refl)

-- ---- by leading ones, as the code finds it

module _ (n a b c d : ℕ) where
  is1 : n ≡ 0 → char 1 a ≡ by_leading_ones n a b c d
  unfolding by_leading_ones pick
  is1 e = rw e

  is2 : n ≡ 2 → pick (two a b) (char 2 (a % 32 * 64 + b % 64)) none ≡ by_leading_ones n a b c d
  unfolding by_leading_ones pick
  is2 e = rw e

  is3 : n ≡ 3 → pick (three a b c) (char 3 ((a % 16 * 64 + b % 64) * 64 + c % 64)) none ≡ by_leading_ones n a b c d
  unfolding by_leading_ones pick
  is3 e = rw e

  is4 : n ≡ 4 → pick (four a b c d) (char 4 (((a % 8 * 64 + b % 64) * 64 + c % 64) * 64 + d % 64)) none ≡ by_leading_ones n a b c d
  unfolding by_leading_ones pick
  is4 e = rw e

  is0 : (n ≡ 0 → ⊥) → (n ≡ 2 → ⊥) → (n ≡ 3 → ⊥) → (n ≡ 4 → ⊥) → none ≡ by_leading_ones n a b c d
  unfolding by_leading_ones pick
  is0 p q r t = rw (ne_eqb n 0 p, ne_eqb n 2 q, ne_eqb n 3 r, ne_eqb n 4 t)

-- ---- where a character stands its leading ones tell the row

module _ (n a b c d : ℕ) (h : 0 < (by_leading_ones n a b c d).size) where
  some : (t : Bool) (z : Char) → 0 < (pick t z none).size → z ≡ pick t z none
  unfolding pick
  some true z i = refl
  some false z i = absurd (omega arith)

  stood2 : n ≡ 2 → char 2 (a % 32 * 64 + b % 64) ≡ by_leading_ones n a b c d
  stood2 e = let f = is2 n a b c d e in some (two a b) (char 2 (a % 32 * 64 + b % 64)) (rw f h) ∙ f

  stood3 : n ≡ 3 → char 3 ((a % 16 * 64 + b % 64) * 64 + c % 64) ≡ by_leading_ones n a b c d
  stood3 e = let f = is3 n a b c d e in some (three a b c) (char 3 ((a % 16 * 64 + b % 64) * 64 + c % 64)) (rw f h) ∙ f

  left4 : (n ≡ 0 → ⊥) → (n ≡ 2 → ⊥) → (n ≡ 3 → ⊥) → n ≡ 4
  left4 p q r = same_or n 4 (n ≡ 4) (λ e. e) (λ t. let z : 0 ≡ (by_leading_ones n a b c d).size = ap (λ (c : Char). c.size) (is0 n a b c d p q r t) in absurd (omega arith))

  stood4 : (n ≡ 0 → ⊥) → (n ≡ 2 → ⊥) → (n ≡ 3 → ⊥) → char 4 (((a % 8 * 64 + b % 64) * 64 + c % 64) * 64 + d % 64) ≡ by_leading_ones n a b c d
  stood4 p q r = let f = is4 n a b c d (left4 p q r) in some (four a b c d) (char 4 (((a % 8 * 64 + b % 64) * 64 + c % 64) * 64 + d % 64)) (rw f h) ∙ f

  -- two bytes or more, as many as leading ones
  record Long (size : ℕ) : Type 0 where
    pub is : size ≡ n
    pub least : 2 ≤ n

  long : (n ≡ 0 → ⊥) → Long (by_leading_ones n a b c d).size
  long p =
      same_or n 2 (Long (by_leading_ones n a b c d).size) (λ e. record { is = rw (← stood2 e) (sym e); least = omega arith }) (λ q.
      same_or n 3 (Long (by_leading_ones n a b c d).size) (λ e. record { is = rw (← stood3 e) (sym e); least = omega arith }) (λ r.
      let e = left4 p q r in record { is = rw (← stood4 p q r) (sym e); least = omega arith }))

-- ---- which row it is

pub data Kind (a b c d : ℕ) : Type 0 where
  kind1 : one a ≡ true → Kind a b c d
  kind2 : one a ≡ false → two a b ≡ true → Kind a b c d
  kind3 : one a ≡ false → two a b ≡ false → three a b c ≡ true → Kind a b c d
  kind4 : one a ≡ false → two a b ≡ false → three a b c ≡ false → four a b c d ≡ true → Kind a b c d
  kind0 : first a b c d ≡ none → Kind a b c d

pub kind : (a b c d : ℕ) → Kind a b c d
unfolding first pick
kind a b c d = go1 (one a) refl
  where
    go4 : (t : Bool) → four a b c d ≡ t → one a ≡ false → two a b ≡ false → three a b c ≡ false → Kind a b c d
    go4 true e p q r = kind4 p q r e
    go4 false e p q r = kind0 (rw (p, q, r, e))

    go3 : (t : Bool) → three a b c ≡ t → one a ≡ false → two a b ≡ false → Kind a b c d
    go3 true e p q = kind3 p q e
    go3 false e p q = go4 (four a b c d) refl p q e

    go2 : (t : Bool) → two a b ≡ t → one a ≡ false → Kind a b c d
    go2 true e p = kind2 p e
    go2 false e p = go3 (three a b c) refl p e

    go1 : (t : Bool) → one a ≡ t → Kind a b c d
    go1 true e = kind1 e
    go1 false e = go2 (two a b) refl e

module _ (a b c d : ℕ) where
  pub first1 : one a ≡ true → first a b c d ≡ char 1 a
  unfolding first pick
  first1 p = rw p

  pub first2 : one a ≡ false → two a b ≡ true → first a b c d ≡ char 2 (a % 32 * 64 + b % 64)
  unfolding first pick
  first2 p q = rw (p, q)

  pub first3 : one a ≡ false → two a b ≡ false → three a b c ≡ true → first a b c d ≡ char 3 ((a % 16 * 64 + b % 64) * 64 + c % 64)
  unfolding first pick
  first3 p q r = rw (p, q, r)

  pub first4 : one a ≡ false → two a b ≡ false → three a b c ≡ false → four a b c d ≡ true → first a b c d ≡ char 4 (((a % 8 * 64 + b % 64) * 64 + c % 64) * 64 + d % 64)
  unfolding first pick
  first4 p q r t = rw (p, q, r, t)

-- ---- a row rules out those before it

clash : (t : Bool) → t ≡ false → t ≡ true → ⊥
clash t p q = let w : ◌≡◌ {A = ℕ} 0 1 = cc in omega arith

two_first : (a b : ℕ) → two a b ≡ true → one a ≡ false
two_first a b e = below_or a 194 (one a ≡ false) (λ h. absurd (clash (two a b) (two_under a b 0 0 h) e)) (λ h. one_not a b 0 0 (omega arith))

three_first : (a b c : ℕ) → three a b c ≡ true → (one a ≡ false) × (two a b ≡ false)
three_first a b c e =
    below_or a 224 ((one a ≡ false) × (two a b ≡ false)) (λ h. absurd (clash (three a b c) (three_under a b c 0 h) e)) (λ h. (one_not a b c 0 (omega arith), two_over a b c 0 h))

four_first : (a b c d : ℕ) → four a b c d ≡ true → (one a ≡ false) × (two a b ≡ false) × (three a b c ≡ false)
four_first a b c d e =
    below_or a 240 ((one a ≡ false) × (two a b ≡ false) × (three a b c ≡ false)) (λ h. absurd (clash (four a b c d) (four_under a b c d h) e)) (λ h.
    (one_not a b c d (omega arith), two_over a b c d (omega arith), three_over a b c d (omega arith)))

-- ---- the last byte of a character is a tail, so it is there

either : (a b c : Bool) → (a ≡ true → c ≡ true) → (b ≡ true → c ≡ true) → a || b ≡ true → c ≡ true
either true b c f g e = f refl
either false b c f g e = g e

one_of_3 : (x y z t : Bool) → (x && t) || ((y && t) || (z && t)) ≡ true → t ≡ true
one_of_3 x y z t = either (x && t) ((y && t) || (z && t)) t (λ e. (both x t e).1) (either (y && t) (z && t) t (λ e. (both y t e).1) (λ e. (both z t e).1))

one_of_4 : (x y z w t : Bool) → (x && t) || ((y && t) || ((z && t) || (w && t))) ≡ true → t ≡ true
one_of_4 x y z w t = either (x && t) ((y && t) || ((z && t) || (w && t))) t (λ e. (both x t e).1) (one_of_3 y z w t)

module _ (a b c d : ℕ) where
  pub two_tail : two a b ≡ true → tail b ≡ true
  unfolding two
  two_tail e = (both (range 194 223 a) (tail b) e).1

  pub three_tail : three a b c ≡ true → tail c ≡ true
  unfolding three
  three_tail = one_of_4 (range 224 224 a && range 160 191 b) (range 225 236 a && tail b) (range 237 237 a && range 128 159 b) (range 238 239 a && tail b) (tail c)

  pub four_tail : four a b c d ≡ true → tail d ≡ true
  unfolding four
  four_tail = one_of_3 ((range 240 240 a && range 144 191 b) && tail c) ((range 241 243 a && tail b) && tail c) ((range 244 244 a && range 128 143 b) && tail c) (tail d)

-- a tail read from a list is in it
pub tail_in : (l : List ℕ) (k : ℕ) → tail (get_or l k 0) ≡ true → k < length l
unfolding tail
tail_in l k e = go (ltb k (length l)) refl
  where
    go : (t : Bool) → ltb k (length l) ≡ t → k < length l
    go true h = ltb-true k (length l) h
    go false h = let p = bounds 128 191 (get_or l k 0) e in let z : get_or l k 0 ≡ 0 = get_or-eq_default l 0 (ltb-false k (length l) h) in absurd (omega arith)

-- a character is within its text
pub front_fits : (l : List ℕ) → 0 < length l → (front l).size ≤ length l
unfolding front
front_fits l h = go (kind (get_or l 0 0) (get_or l 1 0) (get_or l 2 0) (get_or l 3 0))
  where
    go : Kind (get_or l 0 0) (get_or l 1 0) (get_or l 2 0) (get_or l 3 0) → (first (get_or l 0 0) (get_or l 1 0) (get_or l 2 0) (get_or l 3 0)).size ≤ length l
    go (kind1 p) = rw (first1 _ _ _ _ p) (omega arith)
    go (kind2 p q) = rw (first2 _ _ _ _ p q) (omega (arith, tail_in l 1 (two_tail _ _ 0 0 q)))
    go (kind3 p q r) = rw (first3 _ _ _ _ p q r) (omega (arith, tail_in l 2 (three_tail _ _ _ 0 r)))
    go (kind4 p q r t) = rw (first4 _ _ _ _ p q r t) (omega (arith, tail_in l 3 (four_tail _ _ _ _ t)))
    go (kind0 e) = rw e (omega arith)

-- what is joined behind does not change the character at the front
pub front_joined : (l m : List ℕ) → 0 < length l → ((front l).size ≡ 0 → ⊥) → front (l ++ m) ≡ front l
unfolding front
front_joined l m h n = go (kind a b c d)
  where
    a : ℕ
    a = get_or l 0 0

    b : ℕ
    b = get_or l 1 0

    c : ℕ
    c = get_or l 2 0

    d : ℕ
    d = get_or l 3 0

    at : (k : ℕ) → k < length l → get_or (l ++ m) k 0 ≡ get_or l k 0
    at k i = get_or-append l m 0 k i

    go : Kind a b c d → first (get_or (l ++ m) 0 0) (get_or (l ++ m) 1 0) (get_or (l ++ m) 2 0) (get_or (l ++ m) 3 0) ≡ first a b c d
    go (kind1 p) = rw (at 0 h) (first1 a _ _ _ p ∙ sym (first1 a b c d p))
    go (kind2 p q) = let i = tail_in l 1 (two_tail a b 0 0 q) in rw (at 0 h, at 1 i) (first2 a b _ _ p q ∙ sym (first2 a b c d p q))
    go (kind3 p q r) =
        let i = tail_in l 2 (three_tail a b c 0 r) in
        rw (at 0 h, at 1 (omega arith), at 2 i) (first3 a b c _ p q r ∙ sym (first3 a b c d p q r))
    go (kind4 p q r t) =
        let i = tail_in l 3 (four_tail a b c d t) in
        rw (at 0 h, at 1 (omega arith), at 2 (omega arith), at 3 i)
    go (kind0 e) = absurd (n (ap (λ (x : Char). x.size) e))

-- ---- the character at a place

module _ (s : List ℕ) (at : ℕ) where
  abbrev here : Char
  here = first (get_or s at 0) (get_or s (at + 1) 0) (get_or s (at + 2) 0) (get_or s (at + 3) 0)

  front_here : front (drop at s) ≡ here
  unfolding front
  front_here = let z : at + 0 ≡ at = omega arith in rw (get_or-drop at s 0 0, get_or-drop at s 1 0, get_or-drop at s 2 0, get_or-drop at s 3 0, z)

  here_fits : at < length s → here.size ≤ length s - at
  here_fits h = let rest : 0 < length (drop at s) = rw length-drop (omega arith) in rw (length-drop, front_here) at (front_fits (drop at s) rest)

-- ---- from its leading ones: y, z, w are the bytes that the code read behind the first, v the character that it made of them

fits_found : (s : List ℕ) (at : ℕ) (c : Char) → at + c.size ≤ length s → IfSome (found c) (λ c. at + c.size ≤ length s)
fits_found s at c h =
    let P : Option Char → Type 0 = λ o. IfSome o (λ c. at + c.size ≤ length s) in
    same_or c.size 0 (P (found c)) (λ e. subst P (sym (found_none c e)) tt) (λ n. subst P (sym (found_some c (omega arith))) h)

module _ (s : List ℕ) (at : ℕ) {n : ℕ} (h : at < length s) (e : n ≡ leading_ones (get_or s at 0)) where
  abbrev it : Char
  it = by_leading_ones n (get_or s at 0) (get_or s (at + 1) 0) (get_or s (at + 2) 0) (get_or s (at + 3) 0)

  it_is : it ≡ here s at
  it_is = rw e (by_ones (get_or s at 0) (get_or s (at + 1) 0) (get_or s (at + 2) 0) (get_or s (at + 3) 0))

  decoded : {r : Option Char} → r ≡ found it → Decoded s at r
  decoded {r} g =
      let is : r ≡ found (here s at) = g ∙ ap found it_is in
      let p = here_fits s at h in
      let P : Option Char → Type 0 = λ o. IfSome o (λ c. at + c.size ≤ length s) in
      record {
        is = is ∙ ap found (sym (front_here s at));
        fits = subst P (sym is) (fits_found s at (here s at) (omega arith));
      }

  pub decoded1 : {v : Char} → n ≡ 0 → v ≡ char 1 (get_or s at 0) → Decoded s at (Some v)
  decoded1 q g = decoded (rw g (sym (found_some (char 1 (get_or s at 0)) (omega arith)) ∙ ap found (is1 n _ _ _ _ q)))

  pub decoded2 : {y : ℕ} {t : Bool} {v : Char} {r : Option Char} → n ≡ 2 → y ≡ get_or s (at + 1) 0 → t ≡ two (get_or s at 0) y → v ≡ char 2 (get_or s at 0 % 32 * 64 + y % 64) → r ≡ then_some t v → Decoded s at r
  decoded2 q i t g f = decoded (found_if _ 1 _ g f ∙ rw (t, i) (ap found (is2 n _ _ _ _ q)))

  pub decoded3 : {y z : ℕ} {t : Bool} {v : Char} {r : Option Char} → n ≡ 3 → y ≡ get_or s (at + 1) 0 → z ≡ get_or s (at + 2) 0 → t ≡ three (get_or s at 0) y z
      → v ≡ char 3 ((get_or s at 0 % 16 * 64 + y % 64) * 64 + z % 64) → r ≡ then_some t v → Decoded s at r
  decoded3 q i j t g f = decoded (found_if _ 2 _ g f ∙ rw (t, i, j) (ap found (is3 n _ _ _ _ q)))

  pub decoded4 : {y z w : ℕ} {t : Bool} {v : Char} {r : Option Char} → n ≡ 4 → y ≡ get_or s (at + 1) 0 → z ≡ get_or s (at + 2) 0 → w ≡ get_or s (at + 3) 0 → t ≡ four (get_or s at 0) y z w
      → v ≡ char 4 (((get_or s at 0 % 8 * 64 + y % 64) * 64 + z % 64) * 64 + w % 64) → r ≡ then_some t v → Decoded s at r
  decoded4 q i j k t g f = decoded (found_if _ 3 _ g f ∙ rw (t, i, j, k) (ap found (is4 n _ _ _ _ q)))

  pub decoded0 : (n ≡ 0 → ⊥) → (n ≡ 2 → ⊥) → (n ≡ 3 → ⊥) → (n ≡ 4 → ⊥) → Decoded s at None
  decoded0 p q r t = decoded (sym (found_none none refl) ∙ ap found (is0 n _ _ _ _ p q r t))

  -- where one stands no row is judged, and its bytes are all there
  module _ (p : 0 < (front (drop at s)).size) where
    stands : 0 < it.size
    stands = rw (it_is, ← front_here s at) p

    stood : {v : Char} → v ≡ it → Decoded s at (Some v)
    stood g = decoded (rw g (sym (found_some it stands)))

    pub room : (n ≡ 0 → ⊥) → (2 ≤ n) × (at + n ≤ length s)
    room q =
        let l = long _ _ _ _ _ stands q in
        (l.least, rw (← l.is, it_is) (omega (arith, here_fits s at h)))

    pub valid1 : {v : Char} → n ≡ 0 → v ≡ char 1 (get_or s at 0) → Decoded s at (Some v)
    valid1 q g = stood (g ∙ is1 n _ _ _ _ q)

    pub valid2 : {v : Char} → n ≡ 2 → v ≡ char 2 (get_or s at 0 % 32 * 64 + get_or s (at + 1) 0 % 64) → Decoded s at (Some v)
    valid2 q g = stood (g ∙ stood2 n _ _ _ _ stands q)

    pub valid3 : {v : Char} → n ≡ 3 → v ≡ char 3 ((get_or s at 0 % 16 * 64 + get_or s (at + 1) 0 % 64) * 64 + get_or s (at + 2) 0 % 64) → Decoded s at (Some v)
    valid3 q g = stood (g ∙ stood3 n _ _ _ _ stands q)

    pub valid4 : {v : Char} → (n ≡ 0 → ⊥) → (n ≡ 2 → ⊥) → (n ≡ 3 → ⊥)
        → v ≡ char 4 (((get_or s at 0 % 8 * 64 + get_or s (at + 1) 0 % 64) * 64 + get_or s (at + 2) 0 % 64) * 64 + get_or s (at + 3) 0 % 64) → Decoded s at (Some v)
    valid4 n0 n2 n3 g = stood (g ∙ stood4 n _ _ _ _ stands n0 n2 n3)

-- ---- its size, by its row

module _ (s : List ℕ) (at : ℕ) where
  pub sized1 : get_or s at 0 < 128 → (front (drop at s)).size ≡ 1
  sized1 h = rw (front_here s at, first1 (get_or s at 0) (get_or s (at + 1) 0) (get_or s (at + 2) 0) (get_or s (at + 3) 0) (one_so (get_or s at 0) 0 0 0 h))

  pub sized2 : two (get_or s at 0) (get_or s (at + 1) 0) ≡ true → (front (drop at s)).size ≡ 2
  sized2 w = rw (front_here s at, first2 _ _ _ _ (two_first _ _ w) w)

  pub sized3 : three (get_or s at 0) (get_or s (at + 1) 0) (get_or s (at + 2) 0) ≡ true → (front (drop at s)).size ≡ 3
  sized3 w = let m = three_first _ _ _ w in rw (front_here s at, first3 _ _ _ _ m.0 m.1 w)

  pub sized4 : four (get_or s at 0) (get_or s (at + 1) 0) (get_or s (at + 2) 0) (get_or s (at + 3) 0) ≡ true → (front (drop at s)).size ≡ 4
  sized4 w = let m = four_first _ _ _ _ w in rw (front_here s at, first4 _ _ _ _ m.0 m.1 m.2 w)
