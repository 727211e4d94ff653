-- The walk, over any function that gives the item of a number: one link, its fuel, the items that it reads. Assumes nothing.
use Prim.Native.Nat.{ℕ, zero, suc, ◌-◌, ◌≤◌, ◌<◌}
use mathlib.Core.Path.{◌≡◌, refl, ap, ◌∙◌, fun_ext}
use mathlib.Core.Bool.{Bool, true, false, and-false}
use mathlib.Core.List.{List, []}
use native.Mathlib.Omega.{arith}
use lib.Dec.{leb, ltb, eqb, eqb-suc-zero}
use lib.ListN.{length}
use borrow.Author.Tests.{lt-leb, le-leb, ne_eqb, eqb-false, leb-false}
use Rattle.codec.specs.Choice.{pick}
use Rattle.java_hash.specs.Hash.{slot_of}
use Rattle.units.specs.declared.Answer.TheVariants.{Done, ChainBroken}
use Rattle.index_file.specs.declared.Item.{Item}
use Rattle.index_query.specs.declared.Criteria.{Criteria}
use Rattle.index_file.specs.Index.{used_count, slot_value, item_of}
use Rattle.index_query.specs.Walk.{Walked, ends, after, item_time, hit, damaged, matched, Visit, visit, walk, search}

pub pick_same : {A : Type 0} (b : Bool) (a : A) → pick b a a ≡ a
unfolding pick
pick_same true a = refl
pick_same false a = refl

-- an item below the range matches nothing
pub early : (q : Criteria) (e : Item) → item_time q e < q.begin → hit q e ≡ false
unfolding hit
early q e h = rw (lt-leb q.begin (item_time q e) h) (and-false (eqb e.hash q.hash))

pub undamaged : (e : Item) → e.seconds < 2147483648 → e.position.0 ≤ 1099511627776 → damaged e ≡ false
unfolding damaged
undamaged e a b = rw (lt-leb 2147483648 e.seconds a, le-leb e.position.0 1099511627776 b)

module _ (look : ℕ → Item) (vis : Visit) where
  -- one link: a number that is not 0 and is below the one before
  pub walk_step : (f left before m : ℕ) → suc m < before
      → walk look vis (suc f) left before (suc m) ≡ pick (eqb left 0) (ends Done) (vis left (look (suc m)) (λ n. walk look vis f n (suc m) (look (suc m)).previous))
  unfolding walk pick
  walk_step f left before m h = rw (eqb-suc-zero m, lt-leb before (suc m) h)

  -- the fuel never runs out: from the number before on it changes nothing
  pub walk_fuel : (f g left before num : ℕ) → before ≤ f → before ≤ g → 0 < before → walk look vis f left before num ≡ walk look vis g left before num
  unfolding walk pick
  walk_fuel zero g left before num hf hg z = absurd (omega arith)
  walk_fuel (suc f) zero left before num hf hg z = absurd (omega arith)
  walk_fuel (suc f) (suc g) left before num hf hg z =
      go (eqb num 0) (leb before num) refl refl (λ n. walk_fuel f g n num (look num).previous)
    where
      go : (a b : Bool) → eqb num 0 ≡ a → leb before num ≡ b
          → ((n : ℕ) → num ≤ f → num ≤ g → 0 < num → walk look vis f n num (look num).previous ≡ walk look vis g n num (look num).previous)
          → pick (eqb left 0) (ends Done) (pick a (ends Done) (pick b (ends ChainBroken) (vis left (look num) (λ n. walk look vis f n num (look num).previous))))
          ≡ pick (eqb left 0) (ends Done) (pick a (ends Done) (pick b (ends ChainBroken) (vis left (look num) (λ n. walk look vis g n num (look num).previous))))
      go true b u v ih = refl
      go false true u v ih = refl
      go false false u v ih =
          let nz = eqb-false num 0 u in
          let lt = leb-false before num v in
          ap (λ (r : ℕ → Walked). pick (eqb left 0) (ends Done) (vis left (look num) r))
          (fun_ext (λ n. ih n (omega arith) (omega arith) (omega arith)))

  -- a turn of the loop: the number before is the fuel
  pub walk_turn : (left before num : ℕ) → (left ≡ 0 → ⊥) → 0 < num → num < before
      → walk look vis before left before num ≡ vis left (look num) (λ n. walk look vis num n num (look num).previous)
  unfolding pick
  walk_turn left zero num l z h = absurd (omega arith)
  walk_turn left (suc b) zero l z h = absurd (omega arith)
  walk_turn left (suc b) (suc m) l z h =
      walk_step b left (suc b) m h
      ∙ rw (ne_eqb left 0 l)
      (ap (vis left (look (suc m))) (fun_ext (λ n. walk_fuel b (suc m) n (suc m) (look (suc m)).previous (omega arith) (omega arith) (omega arith))))

  -- the ends before an item is read
  pub walk_enough : (before num : ℕ) → 0 < before → walk look vis before 0 before num ≡ ends Done
  unfolding walk pick
  walk_enough zero num h = absurd (omega arith)
  walk_enough (suc b) num h = refl

  pub walk_last : (left before : ℕ) → 0 < before → walk look vis before left before 0 ≡ ends Done
  unfolding walk pick
  walk_last left zero h = absurd (omega arith)
  walk_last left (suc b) h = pick_same (eqb left 0) (ends Done)

  pub walk_high : (left before num : ℕ) → 0 < before → (left ≡ 0 → ⊥) → (num ≡ 0 → ⊥) → before ≤ num → walk look vis before left before num ≡ ends ChainBroken
  unfolding walk pick
  walk_high left zero num h a b c = absurd (omega arith)
  walk_high left (suc m) num h a b c = rw (ne_eqb left 0 a, ne_eqb num 0 b, le-leb (suc m) num c)

-- whatever the items are, a walk reads fewer than the number before its start: the links fall
walk_reads : (look : ℕ → Item) (q : Criteria) (f left before num : ℕ) → 0 < before → (walk look (visit q) f left before num).read < before
unfolding walk visit pick
walk_reads look q zero left before num z = z
walk_reads look q (suc f) left before num z =
    go (eqb left 0) (eqb num 0) (leb before num) (damaged (look num)) (ltb (item_time q (look num)) q.begin) refl refl
    (walk_reads look q f (left - length (matched q (look num))) num (look num).previous)
  where
    ms : List ℕ
    ms = matched q (look num)

    rest : Walked
    rest = walk look (visit q) f (left - length (matched q (look num))) num (look num).previous

    go : (a b c d e : Bool) → eqb num 0 ≡ b → leb before num ≡ c → (0 < num → rest.read < num)
        → (pick a (ends Done) (pick b (ends Done) (pick c (ends ChainBroken) (pick d (after [] (ends ChainBroken)) (pick e (after ms (ends Done)) (after ms rest)))))).read < before
    go true b c d e u v ih = z
    go false true c d e u v ih = z
    go false false true d e u v ih = z
    go false false false true e u v ih = let nz = eqb-false num 0 u in let lt = leb-false before num v in omega arith
    go false false false false true u v ih = let nz = eqb-false num 0 u in let lt = leb-false before num v in omega arith
    go false false false false false u v ih = let nz = eqb-false num 0 u in let lt = leb-false before num v in omega (arith, ih (omega arith))

pub search_reads : (k : ℕ) (l : List ℕ) (q : Criteria) (wanted : ℕ) → (search k l q wanted).read ≤ used_count l - 1
unfolding search
search_reads k l q wanted =
    let h = walk_reads (item_of k l) q (used_count l) wanted (used_count l) (slot_value l (slot_of k q.hash)) (omega arith) in
    omega arith
