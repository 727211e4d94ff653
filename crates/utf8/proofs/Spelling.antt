-- A character's bytes follow from its number: two valid texts with the same units are the same bytes; a byte below 128 divides a text. Assumes nothing.
use Prim.Native.Nat.{ℕ, zero, suc, ◌+◌, ◌-◌, ◌*◌, ◌/◌, ◌%◌, ◌≤◌, ◌<◌}
use mathlib.Core.Path.{◌≡◌, refl, ap, sym, ◌∙◌}
use mathlib.Core.Bool.{Bool, true, false, ◌&&◌, ◌||◌}
use mathlib.Core.List.{List, [], ◌∷◌, ◌++◌}
use native.Mathlib.Omega.{arith}
use lib.Dec.{ltb}
use lib.ListN.{length, get_or, take, drop, length-append, length-drop, take-append-drop, get_or-append}
use lib.Seq.{drop-append-le, get_or-append_seam}
use borrow.Author.Tests.{lt-ltb, le-ltb, ltb-true, ltb-false}
use Rattle.codec.specs.Choice.{pick}
use Rattle.codec.proofs.Choices.{both}
use Rattle.utf8.specs.declared.Char.{Char}
use Rattle.utf8.specs.Claims.{SameUnits, Divided}
use Rattle.utf8.specs.Utf8.{range, tail, one, two, three, four, first, front, units_of, valid_from, valid, units_from, units}
use Rattle.utf8.proofs.Chars.{bounds, Kind, kind, kind1, kind2, kind3, kind4, kind0, first1, first2, first3, first4, tail_in, two_tail, three_tail, four_tail, front_fits}
use Rattle.utf8.proofs.Texts.{units_next, valid_next, whole, joined_valid, valid_ahead}

-- ---- the rows in numbers

abbrev code2 : ℕ → ℕ → ℕ
code2 a b = a % 32 * 64 + b % 64

abbrev code3 : ℕ → ℕ → ℕ → ℕ
code3 a b c = (a % 16 * 64 + b % 64) * 64 + c % 64

abbrev code4 : ℕ → ℕ → ℕ → ℕ → ℕ
code4 a b c d = ((a % 8 * 64 + b % 64) * 64 + c % 64) * 64 + d % 64

record In (low high b : ℕ) : Type 0 where
  pub least : low ≤ b
  pub most : b ≤ high

within : (low high b : ℕ) → range low high b ≡ true → In low high b
within low high b e = let p = bounds low high b e in record { least = p.0; most = p.1 }

record Row2 (a b : ℕ) : Type 0 where
  pub at0 : In 194 223 a
  pub at1 : In 128 191 b

row2 : (a b : ℕ) → two a b ≡ true → Row2 a b
unfolding two tail
row2 a b e = let p = both (range 194 223 a) (range 128 191 b) e in record { at0 = within _ _ _ p.0; at1 = within _ _ _ p.1 }

record Row3 (a b c : ℕ) : Type 0 where
  pub at0 : In 224 239 a
  pub at1 : In 128 191 b
  pub at2 : In 128 191 c
  pub long : 2048 ≤ code3 a b c
  pub plain : 55296 ≤ code3 a b c → 57344 ≤ code3 a b c

alternative : (P : Type 0) (x y : Bool) → (x ≡ true → P) → (y ≡ true → P) → x || y ≡ true → P
alternative P true y f g e = f refl
alternative P false y f g e = g e

record Three (p q r s a b c : ℕ) : Type 0 where
  pub at0 : In p q a
  pub at1 : In r s b
  pub at2 : In 128 191 c

three_in : (p q r s a b c : ℕ) → (range p q a && range r s b) && range 128 191 c ≡ true → Three p q r s a b c
three_in p q r s a b c e =
    let f = both (range p q a && range r s b) (range 128 191 c) e in
    let g = both (range p q a) (range r s b) f.0 in
    record { at0 = within _ _ _ g.0; at1 = within _ _ _ g.1; at2 = within _ _ _ f.1 }

module _ (a b c : ℕ) where
  e0 : Three 224 224 160 191 a b c → Row3 a b c
  e0 t = record { at0 = record { least = omega arith; most = omega arith }; at1 = record { least = omega arith; most = omega arith }; at2 = t.at2; long = omega arith; plain = λ h. absurd (omega arith) }

  e1 : Three 225 236 128 191 a b c → Row3 a b c
  e1 t = record { at0 = record { least = omega arith; most = omega arith }; at1 = t.at1; at2 = t.at2; long = omega arith; plain = λ h. absurd (omega arith) }

  ed : Three 237 237 128 159 a b c → Row3 a b c
  ed t = record { at0 = record { least = omega arith; most = omega arith }; at1 = record { least = omega arith; most = omega arith }; at2 = t.at2; long = omega arith; plain = λ h. absurd (omega arith) }

  ee : Three 238 239 128 191 a b c → Row3 a b c
  ee t = record { at0 = record { least = omega arith; most = omega arith }; at1 = t.at1; at2 = t.at2; long = omega arith; plain = λ h. omega arith }

  row3 : three a b c ≡ true → Row3 a b c
  unfolding three tail
  row3 =
      let x0 = (range 224 224 a && range 160 191 b) && range 128 191 c in
      let x1 = (range 225 236 a && range 128 191 b) && range 128 191 c in
      let xd = (range 237 237 a && range 128 159 b) && range 128 191 c in
      let xe = (range 238 239 a && range 128 191 b) && range 128 191 c in
      alternative (Row3 a b c) x0 (x1 || (xd || xe)) (λ e. e0 (three_in 224 224 160 191 a b c e))
      (alternative (Row3 a b c) x1 (xd || xe) (λ e. e1 (three_in 225 236 128 191 a b c e))
      (alternative (Row3 a b c) xd xe (λ e. ed (three_in 237 237 128 159 a b c e)) (λ e. ee (three_in 238 239 128 191 a b c e))))

record Row4 (a b c d : ℕ) : Type 0 where
  pub at0 : In 240 244 a
  pub at1 : In 128 191 b
  pub at2 : In 128 191 c
  pub at3 : In 128 191 d
  pub long : 65536 ≤ code4 a b c d
  pub short : code4 a b c d ≤ 1114111

module _ (a b c d : ℕ) where
  f0 : Three 240 240 144 191 a b c → In 128 191 d → Row4 a b c d
  f0 t i = record { at0 = record { least = omega arith; most = omega arith }; at1 = record { least = omega arith; most = omega arith }; at2 = t.at2; at3 = i; long = omega arith; short = omega arith }

  f1 : Three 241 243 128 191 a b c → In 128 191 d → Row4 a b c d
  f1 t i = record { at0 = record { least = omega arith; most = omega arith }; at1 = t.at1; at2 = t.at2; at3 = i; long = omega arith; short = omega arith }

  f4 : Three 244 244 128 143 a b c → In 128 191 d → Row4 a b c d
  f4 t i = record { at0 = record { least = omega arith; most = omega arith }; at1 = record { least = omega arith; most = omega arith }; at2 = t.at2; at3 = i; long = omega arith; short = omega arith }

  four_in : (p q r s : ℕ) → (Three p q r s a b c → In 128 191 d → Row4 a b c d) → ((range p q a && range r s b) && range 128 191 c) && range 128 191 d ≡ true → Row4 a b c d
  four_in p q r s f e =
      let g = both ((range p q a && range r s b) && range 128 191 c) (range 128 191 d) e in
      f (three_in p q r s a b c g.0) (within _ _ _ g.1)

  row4 : four a b c d ≡ true → Row4 a b c d
  unfolding four tail
  row4 =
      let x0 = ((range 240 240 a && range 144 191 b) && range 128 191 c) && range 128 191 d in
      let x1 = ((range 241 243 a && range 128 191 b) && range 128 191 c) && range 128 191 d in
      let x4 = ((range 244 244 a && range 128 143 b) && range 128 191 c) && range 128 191 d in
      alternative (Row4 a b c d) x0 (x1 || x4) (four_in 240 240 144 191 f0) (alternative (Row4 a b c d) x1 x4 (four_in 241 243 128 191 f1) (four_in 244 244 128 143 f4))

-- ---- the bytes of a number, as the table of section 3 fills them in

unfoldable pub spell : ℕ → List ℕ
spell u =
    pick (ltb u 128) (u ∷ [])
    (pick (ltb u 2048) ((192 + u / 64) ∷ (128 + u % 64) ∷ [])
    (pick (ltb u 65536) ((224 + u / 4096) ∷ (128 + u / 64 % 64) ∷ (128 + u % 64) ∷ [])
    ((240 + u / 262144) ∷ (128 + u / 4096 % 64) ∷ (128 + u / 64 % 64) ∷ (128 + u % 64) ∷ [])))

spell1 : (a : ℕ) → a < 128 → spell a ≡ a ∷ []
unfolding spell pick
spell1 a h = rw (lt-ltb a 128 h)

spell2 : (a b : ℕ) → Row2 a b → spell (code2 a b) ≡ a ∷ b ∷ []
unfolding spell pick
spell2 a b r =
    let u = code2 a b in
    let p : 192 + u / 64 ≡ a = omega arith in
    let q : 128 + u % 64 ≡ b = omega arith in
    rw (le-ltb u 128 (omega arith), lt-ltb u 2048 (omega arith), p, q)

spell3 : (a b c : ℕ) → Row3 a b c → spell (code3 a b c) ≡ a ∷ b ∷ c ∷ []
unfolding spell pick
spell3 a b c r =
    let u = code3 a b c in
    let h = r.long in
    let p : 224 + u / 4096 ≡ a = omega arith in
    let q : 128 + u / 64 % 64 ≡ b = omega arith in
    let s : 128 + u % 64 ≡ c = omega arith in
    rw (le-ltb u 128 (omega arith), le-ltb u 2048 h, lt-ltb u 65536 (omega arith), p, q, s)

spell4 : (a b c d : ℕ) → Row4 a b c d → spell (code4 a b c d) ≡ a ∷ b ∷ c ∷ d ∷ []
unfolding spell pick
spell4 a b c d r =
    let u = code4 a b c d in
    let h = r.long in
    let p : 240 + u / 262144 ≡ a = omega arith in
    let q : 128 + u / 4096 % 64 ≡ b = omega arith in
    let s : 128 + u / 64 % 64 ≡ c = omega arith in
    let t : 128 + u % 64 ≡ d = omega arith in
    rw (le-ltb u 128 (omega arith), le-ltb u 2048 (omega arith), le-ltb u 65536 h, p, q, s, t)

-- a number that a character may have
pub record Scalar (u : ℕ) : Type 0 where
  pub plain : 55296 ≤ u → 57344 ≤ u
  pub most : u ≤ 1114111

-- what is known of the character at the front, if one stands there
pub record Spelled (l : List ℕ) (c : Char) : Type 0 where
  pub bytes : take c.size l ≡ spell c.code
  pub scalar : Scalar c.code
  pub inner : (j : ℕ) → 0 < j → j < c.size → 128 ≤ get_or l j 0

take1 : (l : List ℕ) → 0 < length l → take 1 l ≡ get_or l 0 0 ∷ []
take1 [] h = absurd (omega arith)
take1 (a ∷ l) h = refl

take2 : (l : List ℕ) → 1 < length l → take 2 l ≡ get_or l 0 0 ∷ get_or l 1 0 ∷ []
take2 [] h = absurd (omega arith)
take2 (a ∷ l) h = ap (λ (m : List ℕ). a ∷ m) (take1 l (omega arith))

take3 : (l : List ℕ) → 2 < length l → take 3 l ≡ get_or l 0 0 ∷ get_or l 1 0 ∷ get_or l 2 0 ∷ []
take3 [] h = absurd (omega arith)
take3 (a ∷ l) h = ap (λ (m : List ℕ). a ∷ m) (take2 l (omega arith))

take4 : (l : List ℕ) → 3 < length l → take 4 l ≡ get_or l 0 0 ∷ get_or l 1 0 ∷ get_or l 2 0 ∷ get_or l 3 0 ∷ []
take4 [] h = absurd (omega arith)
take4 (a ∷ l) h = ap (λ (m : List ℕ). a ∷ m) (take3 l (omega arith))

at1 : (l : List ℕ) (j : ℕ) → 128 ≤ get_or l 1 0 → 0 < j → j < 2 → 128 ≤ get_or l j 0
at1 l j p h k = let e : j ≡ 1 = omega arith in rw e p

at2 : (l : List ℕ) (j : ℕ) → 128 ≤ get_or l 1 0 → 128 ≤ get_or l 2 0 → 0 < j → j < 3 → 128 ≤ get_or l j 0
at2 l zero p q h k = absurd (omega arith)
at2 l (suc zero) p q h k = p
at2 l (suc (suc zero)) p q h k = q
at2 l (suc (suc (suc j))) p q h k = absurd (omega arith)

at3 : (l : List ℕ) (j : ℕ) → 128 ≤ get_or l 1 0 → 128 ≤ get_or l 2 0 → 128 ≤ get_or l 3 0 → 0 < j → j < 4 → 128 ≤ get_or l j 0
at3 l zero p q r h k = absurd (omega arith)
at3 l (suc zero) p q r h k = p
at3 l (suc (suc zero)) p q r h k = q
at3 l (suc (suc (suc zero))) p q r h k = r
at3 l (suc (suc (suc (suc j)))) p q r h k = absurd (omega arith)

pub spelled : (l : List ℕ) → 0 < length l → ((front l).size ≡ 0 → ⊥) → Spelled l (front l)
unfolding front one
spelled l h n = go (kind a b c d)
  where
    a : ℕ
    a = get_or l 0 0

    b : ℕ
    b = get_or l 1 0

    c : ℕ
    c = get_or l 2 0

    d : ℕ
    d = get_or l 3 0

    go : Kind a b c d → Spelled l (first a b c d)
    go (kind1 p) =
        let i = within 0 127 a p in
        rw (first1 a b c d p)
        record { bytes = take1 l h ∙ sym (spell1 a (omega arith)); scalar = record { plain = λ e. absurd (omega arith); most = omega arith }; inner = λ j f g. absurd (omega arith) }
    go (kind2 p q) =
        let r = row2 a b q in
        rw (first2 a b c d p q)
        record {
          bytes = take2 l (tail_in l 1 (two_tail a b 0 0 q)) ∙ sym (spell2 a b r);
          scalar = record { plain = λ e. absurd (omega arith); most = omega arith };
          inner = λ j. at1 l j r.at1.least;
        }
    go (kind3 p q t) =
        let r = row3 a b c t in
        rw (first3 a b c d p q t)
        record {
          bytes = take3 l (tail_in l 2 (three_tail a b c 0 t)) ∙ sym (spell3 a b c r);
          scalar = record { plain = r.plain; most = omega arith };
          inner = λ j. at2 l j r.at1.least r.at2.least;
        }
    go (kind4 p q s t) =
        let r = row4 a b c d t in
        rw (first4 a b c d p q s t)
        record {
          bytes = take4 l (tail_in l 3 (four_tail a b c d t)) ∙ sym (spell4 a b c d r);
          scalar = record { plain = λ e. omega (arith, r.long); most = r.short };
          inner = λ j. at3 l j r.at1.least r.at2.least r.at3.least;
        }
    go (kind0 e) = absurd (n (ap (λ (x : Char). x.size) e))

-- ---- the same units, the same number

pub record Same (u v : ℕ) (p q : List ℕ) : Type 0 where
  pub number : u ≡ v
  pub rest : p ≡ q

small : (u : ℕ) → u < 65536 → units_of u ≡ u ∷ []
unfolding units_of pick
small u h = rw (lt-ltb u 65536 h)

large : (u : ℕ) → 65536 ≤ u → units_of u ≡ (55296 + (u - 65536) / 1024) ∷ (56320 + (u - 65536) % 1024) ∷ []
unfolding units_of pick
large u h = rw (le-ltb u 65536 h)

same_number : (u v : ℕ) (p q : List ℕ) → Scalar u → Scalar v → units_of u ++ p ≡ units_of v ++ q → Same u v p q
same_number u v p q s t e = go (ltb u 65536) (ltb v 65536) refl refl
  where
    go : (x y : Bool) → ltb u 65536 ≡ x → ltb v 65536 ≡ y → Same u v p q
    go true true f g =
        let w : u ∷ p ≡ v ∷ q = rw (small u (ltb-true u 65536 f), small v (ltb-true v 65536 g)) at e in
        record { number = cc; rest = cc }
    go true false f g =
        let w : u ∷ p ≡ (55296 + (v - 65536) / 1024) ∷ (56320 + (v - 65536) % 1024) ∷ q = rw (small u (ltb-true u 65536 f), large v (ltb-false v 65536 g)) at e in
        let z : u ≡ 55296 + (v - 65536) / 1024 = cc in
        let k = ltb-false v 65536 g in
        absurd (omega (arith, s.plain (omega (arith, t.most)), t.most))
    go false true f g =
        let w : (55296 + (u - 65536) / 1024) ∷ (56320 + (u - 65536) % 1024) ∷ p ≡ v ∷ q = rw (large u (ltb-false u 65536 f), small v (ltb-true v 65536 g)) at e in
        let z : 55296 + (u - 65536) / 1024 ≡ v = cc in
        let k = ltb-false u 65536 f in
        absurd (omega (arith, t.plain (omega (arith, s.most)), s.most))
    go false false f g =
        let w : (55296 + (u - 65536) / 1024) ∷ (56320 + (u - 65536) % 1024) ∷ p ≡ (55296 + (v - 65536) / 1024) ∷ (56320 + (v - 65536) % 1024) ∷ q
        = rw (large u (ltb-false u 65536 f), large v (ltb-false v 65536 g)) at e in
        let y : 55296 + (u - 65536) / 1024 ≡ 55296 + (v - 65536) / 1024 = cc in
        let z : 56320 + (u - 65536) % 1024 ≡ 56320 + (v - 65536) % 1024 = cc in
        let k = ltb-false u 65536 f in
        let m = ltb-false v 65536 g in
        record { number = omega arith; rest = cc }

-- ---- two valid texts with the same units are the same bytes

some_unit : (u : ℕ) (p : List ℕ) → 0 < length (units_of u ++ p)
some_unit u p = go (ltb u 65536) refl
  where
    go : (x : Bool) → ltb u 65536 ≡ x → 0 < length (units_of u ++ p)
    go true f = rw (small u (ltb-true u 65536 f)) (omega arith)
    go false f = rw (large u (ltb-false u 65536 f)) (omega arith)

-- a text that is not empty and valid has units
has_units : (l : List ℕ) → 0 < length l → valid l ≡ true → 0 < length (units l)
has_units l h v = rw (units_next l h (whole l h v)) (some_unit (front l).code (units (drop (front l).size l)))

no_units : (l : List ℕ) → valid l ≡ true → length (units l) ≡ 0 → l ≡ []
no_units [] v e = refl
no_units (x ∷ l) v e = absurd (omega (arith, has_units (x ∷ l) (omega arith) v))

empty : (l : List ℕ) → length l ≡ 0 → l ≡ []
empty [] e = refl
empty (x ∷ l) e = absurd (omega arith)

units_of_none : length (units []) ≡ 0
unfolding units units_from
units_of_none = refl

module _ (a b : List ℕ) (h : 0 < length a) (k : 0 < length b) (v : valid a ≡ true) (w : valid b ≡ true) (e : units a ≡ units b) where
  fronts : Same (front a).code (front b).code (units (drop (front a).size a)) (units (drop (front b).size b))
  fronts =
      same_number (front a).code (front b).code (units (drop (front a).size a)) (units (drop (front b).size b)) (spelled a h (whole a h v)).scalar (spelled b k (whole b k w)).scalar
      (sym (units_next a h (whole a h v)) ∙ e ∙ units_next b k (whole b k w))

  rest_valid_a : valid (drop (front a).size a) ≡ true
  rest_valid_a = sym (valid_next a h (whole a h v)) ∙ v

  rest_valid_b : valid (drop (front b).size b) ≡ true
  rest_valid_b = sym (valid_next b k (whole b k w)) ∙ w

  rest_shorter : length (drop (front a).size a) < length a
  rest_shorter = rw length-drop (omega (arith, whole a h v))

  step : drop (front a).size a ≡ drop (front b).size b → a ≡ b
  step r =
      let p : take (front a).size a ≡ take (front b).size b = (spelled a h (whole a h v)).bytes ∙ ap spell fronts.number ∙ sym (spelled b k (whole b k w)).bytes in
      sym (take-append-drop (front a).size a) ∙ rw (p, r) (take-append-drop (front b).size b)

either_empty : (n : ℕ) (P : Type 0) → (n ≡ 0 → P) → (0 < n → P) → P
either_empty zero P f g = f refl
either_empty (suc n) P f g = g (omega arith)

nothing_left : (a b : List ℕ) → length a ≡ 0 → valid b ≡ true → units a ≡ units b → a ≡ b
nothing_left a b z w e =
    let p = empty a z in
    let f : units [] ≡ units b = rw p at e in
    p ∙ sym (no_units b w (sym (ap length f) ∙ units_of_none))

all_units : (n : ℕ) (a b : List ℕ) → length a ≤ n → valid a ≡ true → valid b ≡ true → units a ≡ units b → a ≡ b
all_units zero a b h v w e = nothing_left a b (omega arith) w e
all_units (suc n) a b h v w e =
    either_empty (length a) (a ≡ b) (λ z. nothing_left a b z w e) (λ p.
    either_empty (length b) (a ≡ b) (λ z. sym (nothing_left b a z v (sym e))) (λ q.
    step a b p q v w e
    (all_units n (drop (front a).size a) (drop (front b).size b) (omega (arith, rest_shorter a b p q v w e)) (rest_valid_a a b p q v w e) (rest_valid_b a b p q v w e) (fronts a b p q v w e).rest)))

pub same_units : SameUnits
same_units a b v w e = all_units (length a) a b (omega arith) v w e

-- ---- a byte below 128 divides a text: it is valid if both sides are

-- a character that ends before what is joined behind does not need it
front_cut : (l m : List ℕ) → 0 < length l → ((front (l ++ m)).size ≡ 0 → ⊥) → (front (l ++ m)).size ≤ length l → front l ≡ front (l ++ m)
unfolding front
front_cut l m h n f = go (kind a b c d) f
  where
    a : ℕ
    a = get_or (l ++ m) 0 0

    b : ℕ
    b = get_or (l ++ m) 1 0

    c : ℕ
    c = get_or (l ++ m) 2 0

    d : ℕ
    d = get_or (l ++ m) 3 0

    at : (k : ℕ) → k < length l → get_or l k 0 ≡ get_or (l ++ m) k 0
    at k i = sym (get_or-append l m 0 k i)

    go : Kind a b c d → (first a b c d).size ≤ length l → first (get_or l 0 0) (get_or l 1 0) (get_or l 2 0) (get_or l 3 0) ≡ first a b c d
    go (kind1 p) g = rw (at 0 h) (first1 a _ _ _ p ∙ sym (first1 a b c d p))
    go (kind2 p q) g =
        let i : 2 ≤ length l = rw (first2 a b c d p q) at g in
        rw (at 0 h, at 1 (omega arith)) (first2 a b _ _ p q ∙ sym (first2 a b c d p q))
    go (kind3 p q r) g =
        let i : 3 ≤ length l = rw (first3 a b c d p q r) at g in
        rw (at 0 h, at 1 (omega arith), at 2 (omega arith)) (first3 a b c _ p q r ∙ sym (first3 a b c d p q r))
    go (kind4 p q r t) g =
        let i : 4 ≤ length l = rw (first4 a b c d p q r t) at g in
        rw (at 0 h, at 1 (omega arith), at 2 (omega arith), at 3 (omega arith))
    go (kind0 e) g = absurd (n (ap (λ (y : Char). y.size) e))

module _ (a b : List ℕ) (x : ℕ) (small-x : x < 128) (h : 0 < length a) (v : valid (a ++ x ∷ b) ≡ true) where
  l : List ℕ
  l = a ++ x ∷ b

  some_l : 0 < length l
  unfolding l
  some_l = rw length-append (omega arith)

  full : (front l).size ≡ 0 → ⊥
  unfolding l
  full = whole (a ++ x ∷ b) some_l v

  ends : (front l).size ≤ length a
  unfolding l
  ends = go (ltb (length a) (front (a ++ x ∷ b)).size) refl
    where
      go : (t : Bool) → ltb (length a) (front (a ++ x ∷ b)).size ≡ t → (front (a ++ x ∷ b)).size ≤ length a
      go true e =
          let big : 128 ≤ get_or (a ++ x ∷ b) (length a) 0 = (spelled (a ++ x ∷ b) some_l full).inner (length a) h (ltb-true _ _ e) in
          let y : 128 ≤ x = rw (get_or-append_seam a x b 0) at big in
          absurd (omega arith)
      go false e = ltb-false _ _ e

  cut : front a ≡ front (a ++ x ∷ b)
  unfolding l
  cut = front_cut a (x ∷ b) h full ends

  full_a : (front a).size ≡ 0 → ⊥
  unfolding l
  full_a = rw cut full

  onward : valid (drop (front a).size a ++ x ∷ b) ≡ true
  unfolding l
  onward =
      let e : drop (front a).size (a ++ x ∷ b) ≡ drop (front a).size a ++ x ∷ b = drop-append-le (front a).size a (x ∷ b) (front_fits a h) in
      rw (← e, cut) (sym (valid_next (a ++ x ∷ b) some_l full) ∙ v)

  less : length (drop (front a).size a) < length a
  less = rw length-drop (omega (arith, full_a))

  back : valid (drop (front a).size a) ≡ true → valid a ≡ true
  back e = valid_next a h full_a ∙ e

valid_none : (a : List ℕ) → length a ≡ 0 → valid a ≡ true
unfolding valid valid_from
valid_none a z = rw (empty a z)

first_side : (n : ℕ) (a b : List ℕ) (x : ℕ) → length a ≤ n → x < 128 → valid (a ++ x ∷ b) ≡ true → valid a ≡ true
first_side zero a b x h s v = valid_none a (omega arith)
first_side (suc n) a b x h s v =
    either_empty (length a) (valid a ≡ true) (valid_none a) (λ p. back a b x s p v (first_side n (drop (front a).size a) b x (omega (arith, less a b x s p v)) s (onward a b x s p v)))

pub divided : Divided
divided a b x s = go (valid a) (valid (a ++ x ∷ b)) refl refl
  where
    go : (t u : Bool) → valid a ≡ t → valid (a ++ x ∷ b) ≡ u → valid (a ++ x ∷ b) ≡ t && valid b
    go true u e f = joined_valid a (x ∷ b) e ∙ valid_ahead x b s
    go false false e f = f
    go false true e f = let g : valid a ≡ true = first_side (length a) a b x (omega arith) s f in let w : ◌≡◌ {A = ℕ} 0 1 = cc in absurd (omega arith)
