-- The bytes that std makes of a number and the number that it makes of bytes, over every width. Assumes nothing.
use Prim.Native.Nat.{ℕ, zero, suc, ◌+◌, ◌*◌, ◌/◌, ◌%◌, ◌^◌, ◌≤◌, ◌<◌, ◌-◌}
use mathlib.Core.Path.{◌≡◌, refl, ap, ◌∙◌}
use mathlib.Core.List.{List, [], ◌∷◌, ◌++◌}
use native.Mathlib.Omega.{arith}
use native.Mathlib.Nat.{pow-suc}
use lib.ListN.{length, get_or, take, drop, replicate, length-append, length-drop, length-replicate}
use borrow.Rule.Slice.PartMut.{put_mid}
use Rattle.std.specs.Int.{byte_at, byte_worth, bytes_high_first, sum_through}
use Rattle.codec.specs.Bytes.{big, little, bytes_of, value_of, part, field, overwrite, Bytes}
use Rattle.codec.proofs.Numbers.{length_bytes, bytes_value, value_lt, little_append}
use Rattle.codec.proofs.Parts.{length_part, bytes_part, lent_part, put_part}

byte_by_place : (k n : ℕ) → byte_at k n ≡ n / 256 ^ k % 256
byte_by_place zero n = omega arith
byte_by_place (suc k) n = refl

pub big_bytes : (w n : ℕ) → bytes_high_first w n ≡ bytes_of big w n
unfolding bytes_of
big_bytes zero n = refl
big_bytes (suc w) n = rw (byte_by_place w n, big_bytes w n)

pub put_bytes : (w at n : ℕ) (l : List ℕ) {q : List ℕ} → at + w ≤ length l → q ≡ bytes_high_first w n → put_mid at (at + w - at) l q ≡ overwrite l at (bytes_of big w n)
put_bytes w at n l h e =
    let k : length (bytes_of big w n) ≡ w = length_bytes big w n in
    rw k at (put_part l at (bytes_of big w n) (rw k h) (e ∙ big_bytes w n))

-- ---- sums

sum_front : (f : ℕ → ℕ) (k : ℕ) → sum_through f (suc k) ≡ f 0 + sum_through (λ i. f (suc i)) k
sum_front f zero = refl
sum_front f (suc k) = let e = sum_front f k in omega (arith, e)

sum_same : (f g : ℕ → ℕ) (k : ℕ) → ((i : ℕ) → i ≤ k → f i ≡ g i) → sum_through f k ≡ sum_through g k
sum_same f g zero h = h 0 (omega arith)
sum_same f g (suc k) h = rw (sum_same f g k (λ i l. h i (omega arith)), h (suc k) (omega arith))

sum_times : (n : ℕ) (f : ℕ → ℕ) (k : ℕ) → sum_through (λ i. n * f i) k ≡ n * sum_through f k
sum_times n f zero = refl
sum_times n f (suc k) = let e = sum_times n f k in omega (arith, e)

worth : (k b : ℕ) → byte_worth k b ≡ b * 256 ^ k
worth zero b = omega arith
worth (suc k) b = refl

-- ---- the number of k + 1 bytes

pub little_number : (k : ℕ) (l : List ℕ) → length l ≡ suc k → sum_through (λ i. byte_worth i (get_or l i 0)) k ≡ value_of little l
unfolding value_of
little_number k [] e = absurd (omega arith)
little_number zero (b ∷ []) e = omega arith
little_number zero (b ∷ c ∷ l) e = absurd (omega arith)
little_number (suc k) (b ∷ l) e =
    let step : (i : ℕ) → i ≤ k → byte_worth (suc i) (get_or l i 0) ≡ 256 * byte_worth i (get_or l i 0) = λ i h. rw (worth i (get_or l i 0), pow-suc 256 i) (omega arith) in
    let rest : length l ≡ suc k = omega arith in
    sum_front (λ i. byte_worth i (get_or (b ∷ l) i 0)) k
    ∙ rw (sum_same _ _ k step, sum_times 256 (λ i. byte_worth i (get_or l i 0)) k, little_number k l rest)

pub big_number : (k : ℕ) (l : List ℕ) → length l ≡ suc k → sum_through (λ i. byte_worth (k - i) (get_or l i 0)) k ≡ value_of big l
unfolding value_of
big_number k [] e = absurd (omega arith)
big_number zero (b ∷ []) e = omega arith
big_number zero (b ∷ c ∷ l) e = absurd (omega arith)
big_number (suc k) (b ∷ l) e =
    let step : (i : ℕ) → i ≤ k → byte_worth (suc k - suc i) (get_or l i 0) ≡ byte_worth (k - i) (get_or l i 0) = λ i h. let m : suc k - suc i ≡ k - i = omega arith in rw m in
    let rest : length l ≡ suc k = omega arith in
    let all : suc k - 0 ≡ suc k = omega arith in
    sum_front (λ i. byte_worth (suc k - i) (get_or (b ∷ l) i 0)) k
    ∙ rw (sum_same _ _ k step, big_number k l rest, rest, all)

-- ---- read from a place, from what two calls give

pub read_little : (k at : ℕ) (l : List ℕ) {p : List ℕ} {x : ℕ} → at + suc k ≤ length l → p ≡ part (suc k) at l → x ≡ sum_through (λ i. byte_worth i (get_or p i 0)) k → x ≡ field little (suc k) at l
unfolding field
read_little k at l h e f = f ∙ little_number k _ (ap length e ∙ length_part (suc k) at l h) ∙ ap (value_of little) e

pub read_big : (k at : ℕ) (l : List ℕ) {p : List ℕ} {x : ℕ} → at + suc k ≤ length l → p ≡ part (suc k) at l → x ≡ sum_through (λ i. byte_worth (k - i) (get_or p i 0)) k → x ≡ field big (suc k) at l
unfolding field
read_big k at l h e f = f ∙ big_number k _ (ap length e ∙ length_part (suc k) at l h) ∙ ap (value_of big) e

-- the same of w bytes in front of zeros
zero_bytes : (k n : ℕ) → value_of little (drop n (replicate k 0)) ≡ 0
unfolding value_of
zero_bytes zero zero = refl
zero_bytes zero (suc n) = refl
zero_bytes (suc k) zero = rw (zero_bytes k zero)
zero_bytes (suc k) (suc n) = zero_bytes k n

pub read_short : (k w at : ℕ) (l : List ℕ) {p : List ℕ} {x : ℕ} → w ≤ suc k → at + w ≤ length l → Bytes l → p ≡ take (at + w - at) (drop at l)
    → x ≡ sum_through (λ i. byte_worth i (get_or (p ++ drop w (replicate (suc k) 0)) i 0)) k → (x ≡ field little w at l) × (x < 256 ^ w)
unfolding field
read_short k w at l {p} {x} m h bytes e f =
    let q : p ≡ part w at l = e ∙ lent_part w at l in
    let n : length p ≡ w = ap length q ∙ length_part w at l h in
    let long : length (p ++ drop w (replicate (suc k) 0)) ≡ suc k = simp (length-append, length-drop, length-replicate) (omega arith) in
    let v : x ≡ value_of little p = f ∙ little_number k _ long ∙ little_append p (drop w (replicate (suc k) 0)) ∙ rw (zero_bytes (suc k) w) (omega arith) in
    let small : Bytes p = rw q (bytes_part w at l bytes) in
    (rw q at v, rw (v, ← n) (value_lt little p small))

-- ---- a number turned round, its lowest byte first

big_small : (w v i : ℕ) → get_or (bytes_of big w v) i 0 < 256
unfolding bytes_of
big_small zero v i = omega arith
big_small (suc w) v zero = omega arith
big_small (suc w) v (suc i) = big_small w v i

pub turned_bytes : (w v x : ℕ) → x ≡ value_of little (bytes_of big w v) → bytes_of little w x ≡ bytes_of big w v
turned_bytes w v x e = rw e (rw (length_bytes big w v) at (bytes_value little (bytes_of big w v) (big_small w v)))
