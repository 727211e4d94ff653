-- A progress and its counts, which are the part of it behind its first number. Assumes nothing.
use Prim.Native.Nat.{ℕ, zero, suc, ◌+◌, ◌≤◌, ◌<◌}
use mathlib.Core.Path.{◌≡◌, refl, ap}
use mathlib.Core.List.{List, [], ◌∷◌}
use native.Mathlib.Omega.{arith}
use native.Mathlib.Nat.{add-zero, zero-add, suc-add, add-suc}
use native.Mathlib.Numerals.{add-one}
use lib.ListN.{length, take, drop, get_or}
use lib.Seq.{drop-cons}
use Rattle.dispatch_step.specs.declared.Progress.{Progress}
use Rattle.interface.specs.Structs.{numbers_from, counts_in, progress_of}

numbers_part : (n at : ℕ) (l : List ℕ) → at + n ≤ length l → take n (drop at l) ≡ numbers_from n at l
unfolding numbers_from
numbers_part zero at l h = refl
numbers_part (suc n) at l h =
    let k : suc at ≤ length l = omega arith in
    rw (drop-cons l at 0) (ap (λ (r : List ℕ). get_or l at 0 ∷ r) (numbers_part n (suc at) l (omega arith)))

pub counts_lent : (l : List ℕ) → length l ≡ 17 → take 16 (drop 1 l) ≡ counts_in l
unfolding counts_in
counts_lent l e = numbers_part 16 1 l (omega arith)

-- a list of n numbers is told by its places
numbers_told : (n at : ℕ) (l m : List ℕ) → length m ≡ n → ((j : ℕ) → j < n → get_or m j 0 ≡ get_or l (at + j) 0) → m ≡ numbers_from n at l
unfolding numbers_from
numbers_told zero at l [] e h = refl
numbers_told zero at l (x ∷ m) e h = absurd (omega arith)
numbers_told (suc n) at l [] e h = absurd (omega arith)
numbers_told (suc n) at l (x ∷ m) e h =
    let first : x ≡ get_or l at 0 = rw add-zero at (h 0 (omega arith)) in
    let rest : m ≡ numbers_from n (suc at) l = numbers_told n (suc at) l m (omega arith) (λ j k. rw (suc-add, ← add-suc) (h (suc j) (omega arith))) in
    λ i. first i ∷ rest i

pub progress_made : (made : Progress) (progress counts : List ℕ) → length progress ≡ 17 → get_or progress 0 0 ≡ made.position.0
    → ((j : ℕ) → j < 16 → get_or progress (j + 1) 0 ≡ get_or counts j 0) → progress ≡ progress_of made counts
unfolding progress_of
progress_made made [] counts e p h = absurd (omega arith)
progress_made made (x ∷ progress) counts e p h =
    let rest : progress ≡ numbers_from 16 0 counts = numbers_told 16 0 counts progress (omega arith) (λ j k. rw zero-add (rw add-one at (h j k))) in
    λ i. p i ∷ rest i
