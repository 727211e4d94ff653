-- An item, judged by the tests of its function. Assumes nothing.
use Prim.Native.Nat.{ℕ, ◌<◌, max}
use mathlib.Core.Path.{◌≡◌, refl}
use mathlib.Core.Bool.{Bool, true, false, not, ◌&&◌, ◌||◌}
use native.Mathlib.Omega.{arith}
use lib.Dec.{leb, ltb, eqb}
use borrow.Author.Tests.{ltb-true, ltb-false, le-leb, lt-leb}
use Rattle.index_file.specs.declared.Item.{Item}
use Rattle.index_file.specs.Index.{position_ok}
use Rattle.index_query.specs.declared.Criteria.{Criteria}
use Rattle.index_query.specs.Walk.{item_time, hit, damaged}

-- the larger of a number and one below 2^31 is below 2^31 if the number is
same_test : {m : ℕ} (s u : ℕ) → u < 2147483648 → m ≡ max s u → leb 2147483648 s ≡ ltb 2147483647 m
same_test {m} s u h e = go (ltb 2147483647 m) refl
  where
    go : (t : Bool) → ltb 2147483647 m ≡ t → leb 2147483648 s ≡ t
    go true a = le-leb 2147483648 s (omega (arith, ltb-true 2147483647 m a))
    go false a = lt-leb 2147483648 s (omega (arith, ltb-false 2147483647 m a))

above : (p : ℕ) → not (position_ok p) ≡ ltb 1099511627776 p
above p = go (ltb 1099511627776 p) refl
  where
    go : (t : Bool) → ltb 1099511627776 p ≡ t → not (position_ok p) ≡ t
    go true a = rw (lt-leb p 1099511627776 (ltb-true 1099511627776 p a))
    go false a = rw (le-leb p 1099511627776 (ltb-false 1099511627776 p a))

module _ (e : Item) where
  pub is_damaged : (u : ℕ) {m : ℕ} (b : Bool) → u < 2147483648 → m ≡ max e.seconds u → (ltb 2147483647 m || ltb 1099511627776 e.position.0) ≡ b → damaged e ≡ b
  unfolding damaged
  is_damaged u b h em t = rw (same_test e.seconds u h em, above e.position.0) t

  pub is_hit : (q : Criteria) {time : ℕ} (b : Bool) → time ≡ item_time q e → (eqb e.hash q.hash && (leb q.begin time && leb time q.end)) ≡ b → hit q e ≡ b
  unfolding hit
  is_hit q b t h = rw (← t) h
