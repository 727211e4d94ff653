-- The loop of `walk_chain`: its invariant, its ways out and its turns. Assumes nothing.
use Prim.Native.Nat.{ℕ, suc, ◌+◌, ◌-◌, ◌≤◌, ◌<◌}
use mathlib.Core.Path.{◌≡◌, refl, sym, ap, ◌∙◌}
use mathlib.Core.Bool.{Bool, true, false}
use mathlib.Core.List.{List, [], ◌∷◌, ◌++◌, append-nil, append_assoc}
use native.Mathlib.Omega.{arith}
use native.Mathlib.Nat.{sub-zero, zero-add, add-zero}
use native.Mathlib.Numerals.{add-one}
use lib.Dec.{ltb}
use lib.ListN.{length, take, drop, set, length-set, take-append-drop}
use lib.Seq.{length-take-le, take-suc-set, drop-set-lt, drop-drop}
use borrow.Author.Tests.{ltb-true}
use Rattle.codec.specs.Choice.{pick}
use Rattle.java_hash.specs.Hash.{slot_of}
use Rattle.units.specs.declared.Answer.{Answer}
use Rattle.units.specs.declared.Answer.TheVariants.{Done, ChainBroken}
use Rattle.index_file.specs.declared.Item.{Item}
use Rattle.index_query.specs.declared.Criteria.{Criteria}
use Rattle.index_query.specs.declared.Queried.{Queried}
use Rattle.index_query.specs.declared.Verdict.{Verdict}
use Rattle.index_query.specs.declared.Verdict.TheVariants.{Damaged, Match, Early, Pass}
use Rattle.index_file.specs.Index.{used_count, slot_value, item_of}
use Rattle.index_query.specs.Walk.{Walked, item_time, hit, damaged, matched, ends, after, visit, walk, search}
use Rattle.index_query.specs.Query.{QueryOutcome, reported}
use Rattle.index_query.specs.Inner.{verdict_of}
use Rattle.index_query.proofs.Walks.{early, walk_turn, walk_enough, walk_last, walk_high}

-- what an item comes to, by its verdict
act : Verdict → ℕ → Item → (ℕ → Walked) → Walked
act Damaged left e rest = after [] (ends ChainBroken)
act Match left e rest = after (e.position.0 ∷ []) (rest (left - 1))
act Early left e rest = after [] (ends Done)
act Pass left e rest = after [] (rest left)

visit_act : (q : Criteria) (left : ℕ) (e : Item) (rest : ℕ → Walked) → visit q left e rest ≡ act (verdict_of q e) left e rest
unfolding visit verdict_of matched pick act
visit_act q left e rest = go (damaged e) (hit q e) (ltb (item_time q e) q.begin) refl refl
  where
    go : (d h t : Bool) → hit q e ≡ h → ltb (item_time q e) q.begin ≡ t
        → pick d (after [] (ends ChainBroken)) (pick t (after (pick h (e.position.0 ∷ []) []) (ends Done)) (after (pick h (e.position.0 ∷ []) []) (rest (left - length (pick h (e.position.0 ∷ []) [])))))
        ≡ act (pick d Damaged (pick h Match (pick t Early Pass))) left e rest
    go true h t a b = refl
    go false true true a b = let z : true ≡ false = sym a ∙ early q e (ltb-true _ _ b) in cc
    go false true false a b = refl
    go false false true a b = refl
    go false false false a b = rw sub-zero

-- a walk's result, after n items read before it and the positions ps found
unfoldable pub joined : ℕ → List ℕ → Walked → Walked
joined n ps w = record { answer = w.answer; read = n + w.read; found = ps ++ w.found }

joined_after : (n : ℕ) (ps ms ps' : List ℕ) (w : Walked) → ps' ≡ ps ++ ms → joined (n + 1) ps' w ≡ joined n ps (after ms w)
unfolding joined
joined_after n ps ms ps' w h =
    let r : n + 1 + w.read ≡ n + suc w.read = omega arith in
    rw (h, r, append_assoc)

-- what is found so far and the walk from here are the whole
pub record Going (index : List ℕ) (k : ℕ) (q : Criteria) (wanted : ℕ) (out₀ out : List ℕ) (before num found read : ℕ) : Type 0 where
  pub places : wanted ≤ length out
  pub some : 0 < before
  pub within : found ≤ wanted
  pub count : read + before ≤ used_count index
  pub long : length out ≡ length out₀
  pub rest : drop found out ≡ drop found out₀
  pub whole : joined read (take found out) (walk (item_of k index) (visit q) before (wanted - found) before num) ≡ search k index q wanted

pub begins : (index : List ℕ) (k : ℕ) (q : Criteria) (wanted : ℕ) (out : List ℕ) (before num : ℕ)
    → before ≡ used_count index → num ≡ slot_value index (slot_of k q.hash) → wanted ≤ length out → Going index k q wanted out out before num 0 0
unfolding search joined
begins index k q wanted out before num hu hn places =
    record {
      places = places;
      some = omega arith;
      within = omega arith;
      count = omega arith;
      long = refl;
      rest = refl;
      whole = rw (sub-zero wanted, zero-add, hu, hn);
    }

-- a way out: the walk from here finds nothing more, and reads n
leaves : (w whole : Walked) (a : Answer) (n : ℕ) (out₀ out : List ℕ) (found read r : ℕ)
    → w ≡ record { answer = a; read = n; found = [] } → joined read (take found out) w ≡ whole
    → found ≤ length out → drop found out ≡ drop found out₀ → r ≡ read + n
    → ◌≡◌ {A = QueryOutcome} (record { made = record { answer = a; found = found; read = r }; out = out }) (reported whole out₀)
unfolding reported joined
leaves w whole a n out₀ out found read r h e le same er =
    let m = length-take-le found out le in
    rw (← e, h, append-nil, m, er, ← same, take-append-drop found out)

module _ (index : List ℕ) (k : ℕ) (q : Criteria) (wanted : ℕ) (out₀ out : List ℕ) (before num found read : ℕ) (g : Going index k q wanted out₀ out before num found read) where
  rest_of : Walked
  rest_of = walk (item_of k index) (visit q) before (wanted - found) before num

  abbrev Out : Answer → ℕ → Type 0
  Out a n = (r : Queried) → r ≡ record { answer = a; found = found; read = n } → ◌≡◌ {A = QueryOutcome} (record { made = r; out = out }) (reported (search k index q wanted) out₀)

  out_by : (a : Answer) (n : ℕ) → rest_of ≡ record { answer = a; read = n; found = [] } → Out a (read + n)
  unfolding rest_of
  out_by a n h r e =
      rw e
      (leaves (walk (item_of k index) (visit q) before (wanted - found) before num) _ a n out₀ out found read (read + n) h g.whole (omega arith) g.rest refl)

  pub out_enough : found ≡ wanted → Out Done read
  unfolding rest_of
  out_enough e =
      let z : wanted - found ≡ 0 = omega arith in
      rw add-zero at (out_by Done 0 (rw z (walk_enough (item_of k index) (visit q) before num g.some)))

  pub out_last : num ≡ 0 → Out Done read
  unfolding rest_of
  out_last e = rw add-zero at (out_by Done 0 (rw e (walk_last (item_of k index) (visit q) (wanted - found) before g.some)))

  module _ (more : found ≡ wanted → ⊥) (some : num ≡ 0 → ⊥) where
    left_some : wanted - found ≡ 0 → ⊥
    left_some z = let w = g.within in more (omega arith)

    pub out_high : before ≤ num → Out ChainBroken read
    unfolding rest_of
    out_high h = rw add-zero at (out_by ChainBroken 0 (walk_high (item_of k index) (visit q) (wanted - found) before num g.some left_some some h))

    module _ (below : num < before) (e : Item) (looked : e ≡ item_of k index num) where
      next : ℕ → Walked
      next n = walk (item_of k index) (visit q) num n num e.previous

      turn : (v : Verdict) → v ≡ verdict_of q e → rest_of ≡ act v (wanted - found) e next
      unfolding rest_of next
      turn v h =
          walk_turn (item_of k index) (visit q) (wanted - found) before num left_some (omega arith) below
          ∙ rw (← looked) (visit_act q (wanted - found) e next ∙ ap (λ (x : Verdict). act x (wanted - found) e next) (sym h))

      pub out_damaged : Damaged ≡ verdict_of q e → Out ChainBroken (read + 1)
      unfolding act
      out_damaged h = out_by ChainBroken 1 (turn Damaged h)

      pub out_early : Early ≡ verdict_of q e → Out Done (read + 1)
      unfolding act
      out_early h = out_by Done 1 (turn Early h)

      pub again_pass : Pass ≡ verdict_of q e → Going index k q wanted out₀ out num e.previous found (read + 1)
      unfolding rest_of next act
      again_pass h =
          record {
            places = g.places;
            some = omega arith;
            within = g.within;
            count = omega arith;
            long = g.long;
            rest = g.rest;
            whole =
                joined_after read (take found out) [] (take found out) (next (wanted - found)) (sym (append-nil (take found out)))
                ∙ (rw (turn Pass h) at g.whole);
          }

      pub again_match : Match ≡ verdict_of q e → Going index k q wanted out₀ (set out found e.position.0) num e.previous (found + 1) (read + 1)
      unfolding rest_of next act
      again_match h =
          record {
            places = simp length-set g.places;
            some = omega arith;
            within = omega arith;
            count = omega arith;
            long = simp length-set g.long;
            rest =
                drop-set-lt (found + 1) out found e.position.0 (omega arith)
                ∙ sym (drop-drop 1 found out) ∙ ap (drop 1) g.rest ∙ drop-drop 1 found out₀;
            whole =
                let less : wanted - (found + 1) ≡ wanted - found - 1 = omega arith in
                let more-found : take (found + 1) (set out found e.position.0) ≡ take found out ++ (e.position.0 ∷ []) =
                rw add-one (take-suc-set out found e.position.0 (omega arith)) in
                rw less
                (joined_after read (take found out) (e.position.0 ∷ []) _ (next (wanted - found - 1)) more-found
                ∙ (rw (turn Match h) at g.whole));
          }
