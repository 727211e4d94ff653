-- The chains of listed items, and what the walk over one finds: mathematics over a function that gives the item of a number. Assumes nothing.
use Prim.Native.Nat.{ℕ, zero, suc, ◌+◌, ◌*◌, ◌-◌, ◌≤◌, ◌<◌}
use mathlib.Core.Path.{◌≡◌, refl, sym, ap, ◌∙◌, fun_ext}
use mathlib.Core.Bool.{Bool, true, false}
use mathlib.Core.List.{List, [], ◌∷◌, map}
use native.Mathlib.Omega.{arith}
use native.Mathlib.Nat.{sub-zero}
use lib.Dec.{ltb, eqb, eqb-suc-zero}
use lib.ListN.{length, take}
use borrow.Author.Tests.{eqb-true, ltb-true}
use Rattle.codec.specs.Choice.{pick}
use Rattle.codec.specs.Lists.{All}
use Rattle.java_hash.specs.Hash.{slot_of}
use Rattle.units.specs.declared.Answer.TheVariants.{Done}
use Rattle.index_file.specs.declared.Item.{Item}
use Rattle.index_query.specs.declared.Criteria.{Criteria}
use Rattle.index_query.specs.Walk.{Walked, item_time, hit, damaged, matched, ends, after, Visit, visit, walk}
use Rattle.index_laws.specs.History.{in_slot, newest, SecondsRise, keep, linked, down_from}
use Rattle.index_query.proofs.Walks.{pick_same, early, walk_step}

-- `look` gives each of the listed items at its number, undamaged, and linked to the next older one of its slot
abbrev pub Linked : (ℕ → Item) → ℕ → List Item → Type 0
Linked look k [] = Unit {0}
Linked look k (e ∷ h) =
    (look (suc (length h)) ≡ e) × (e.previous ≡ newest k (slot_of k e.hash) h) × (damaged e ≡ false) × Linked look k h

-- it rests on the items up to the newest alone
pub linked_cong : (look look' : ℕ → Item) (k : ℕ) (h : List Item) → ((v : ℕ) → v ≤ length h → look' v ≡ look v) → Linked look k h → Linked look' k h
linked_cong look look' k [] f b = tt
linked_cong look look' k (e ∷ h) f b = (f (suc (length h)) (omega arith) ∙ b.0, b.1, b.2, linked_cong look look' k h (λ v le. f v (omega arith)) b.3)

pub newest_le : (k s : ℕ) (h : List Item) → newest k s h ≤ length h
unfolding newest pick
newest_le k s [] = omega arith
newest_le k s (e ∷ h) = go (in_slot k s e) (newest_le k s h)
  where
    go : (b : Bool) → newest k s h ≤ length h → pick b (suc (length h)) (newest k s h) ≤ suc (length h)
    go true i = omega arith
    go false i = omega arith

pub linked_items : (look : ℕ → Item) (k : ℕ) (h : List Item) → Linked look k h → map look (down_from (length h)) ≡ h
unfolding down_from
linked_items look k [] b = refl
linked_items look k (e ∷ h) b = rw (b.0, linked_items look k h b.3)

-- ---- the chain of a slot

-- the numbers of the listed items of a slot
numbers : ℕ → ℕ → List Item → List ℕ
numbers k s [] = []
numbers k s (e ∷ h) = pick (in_slot k s e) (suc (length h) ∷ numbers k s h) (numbers k s h)

linked_numbers : (look : ℕ → Item) (k s : ℕ) (h : List Item) → Linked look k h → (fuel : ℕ) → length h < fuel → linked look fuel (newest k s h) ≡ numbers k s h
unfolding linked newest numbers pick
linked_numbers look k s [] b zero hf = absurd (omega arith)
linked_numbers look k s [] b (suc f) hf = refl
linked_numbers look k s (e ∷ h) b zero hf = absurd (omega arith)
linked_numbers look k s (e ∷ h) b (suc f) hf = go (in_slot k s e) refl (linked_numbers look k s h b.3)
  where
    go : (t : Bool) → in_slot k s e ≡ t → ((g : ℕ) → length h < g → linked look g (newest k s h) ≡ numbers k s h)
        → linked look (suc f) (pick t (suc (length h)) (newest k s h)) ≡ pick t (suc (length h) ∷ numbers k s h) (numbers k s h)
    go true w ih =
        rw (eqb-suc-zero (length h), b.0)
        (ap {B = List ℕ} (λ r. suc (length h) ∷ r) (ap (linked look f) (b.1 ∙ ap (λ (x : ℕ). newest k x h) (eqb-true (slot_of k e.hash) s w)) ∙ ih f (omega arith)))
    go false w ih = ih (suc f) (omega arith)

numbers_kept : (look : ℕ → Item) (k s : ℕ) (h : List Item) → Linked look k h → numbers k s h ≡ keep (λ u. in_slot k s (look u)) (down_from (length h))
unfolding numbers keep down_from
numbers_kept look k s [] b = refl
numbers_kept look k s (e ∷ h) b = rw (b.0, numbers_kept look k s h b.3)

pub chain_kept : (look : ℕ → Item) (k s : ℕ) (h : List Item) → Linked look k h → (fuel : ℕ) → length h < fuel
    → linked look fuel (newest k s h) ≡ keep (λ u. in_slot k s (look u)) (down_from (length h))
chain_kept look k s h b fuel hf = linked_numbers look k s h b fuel hf ∙ numbers_kept look k s h b

-- ---- the walk over a chain

-- the walk over a plain list of items: no numbers and no links
unfoldable pub walk_list : Visit → ℕ → List Item → Walked
walk_list vis left [] = ends Done
walk_list vis left (e ∷ es) = pick (eqb left 0) (ends Done) (vis left e (λ n. walk_list vis n es))

-- a walk from the newest item of a slot is the walk over the listed items of that slot
pub walk_chain : (look : ℕ → Item) (vis : Visit) (k s : ℕ) (h : List Item) → Linked look k h
    → (fuel left before : ℕ) → length h < before → length h < fuel
    → walk look vis fuel left before (newest k s h) ≡ walk_list vis left (keep (in_slot k s) h)
unfolding walk newest walk_list keep pick
walk_chain look vis k s [] b zero left before hb hf = absurd (omega arith)
walk_chain look vis k s [] b (suc f) left before hb hf = pick_same (eqb left 0) (ends Done)
walk_chain look vis k s (e ∷ h) b zero left before hb hf = absurd (omega arith)
walk_chain look vis k s (e ∷ h) b (suc f) left before hb hf =
    go (in_slot k s e) refl (walk_chain look vis k s h b.3)
  where
    u : ℕ
    u = suc (length h)

    go : (t : Bool) → in_slot k s e ≡ t
        → ((g n d : ℕ) → length h < d → length h < g → walk look vis g n d (newest k s h) ≡ walk_list vis n (keep (in_slot k s) h))
        → walk look vis (suc f) left before (pick t u (newest k s h)) ≡ walk_list vis left (pick t (e ∷ keep (in_slot k s) h) (keep (in_slot k s) h))
    go true w ih =
        walk_step look vis f left before (length h) hb
        ∙ rw b.0
        (ap (λ (r : ℕ → Walked). pick (eqb left 0) (ends Done) (vis left e r))
        (fun_ext (λ n. ap (walk look vis f n u) (b.1 ∙ ap (λ (x : ℕ). newest k x h) (eqb-true (slot_of k e.hash) s w)) ∙ ih f n u (omega arith) (omega arith))))
    go false w ih = ih (suc f) left before (omega arith) (omega arith)

-- ---- what it finds

abbrev pub Whole : List Item → Type 0
Whole es = All (λ (e : Item). damaged e ≡ false) es

pub linked_whole : (look : ℕ → Item) (k : ℕ) (h : List Item) → Linked look k h → Whole h
linked_whole look k [] b = tt
linked_whole look k (e ∷ h) b = (b.2, linked_whole look k h b.3)

pub all_keep : (P : Item → Type 0) (p : Item → Bool) (xs : List Item) → All P xs → All P (keep p xs)
unfolding keep pick
all_keep P p [] a = tt
all_keep P p (x ∷ xs) a = go (p x) (all_keep P p xs a.1)
  where
    go : (t : Bool) → All P (keep p xs) → All P (pick t (x ∷ keep p xs) (keep p xs))
    go true r = (a.0, r)
    go false r = r

pub rise_keep : (p : Item → Bool) (es : List Item) → SecondsRise es → SecondsRise (keep p es)
unfolding keep pick
rise_keep p [] a = tt
rise_keep p (e ∷ es) a = go (p e) (rise_keep p es a.1) (all_keep (λ (o : Item). o.seconds ≤ e.seconds) p es a.0)
  where
    go : (t : Bool) → SecondsRise (keep p es) → All (λ (o : Item). o.seconds ≤ e.seconds) (keep p es) → SecondsRise (pick t (e ∷ keep p es) (keep p es))
    go true r m = (m, r)
    go false r m = r

-- below the range no older item matches
none_early : (q : Criteria) (m : ℕ) (es : List Item) → q.base + 1000 * m < q.begin → All (λ (o : Item). o.seconds ≤ m) es → keep (hit q) es ≡ []
unfolding keep pick
none_early q m [] h a = refl
none_early q m (e ∷ es) h a = rw (early q e (omega arith)) (none_early q m es h a.1)

-- the newest matches, as many as are wanted, and the answer is done
pub list_found : (q : Criteria) (left : ℕ) (es : List Item) → SecondsRise es → Whole es
    → ((walk_list (visit q) left es).answer ≡ Done) × ((walk_list (visit q) left es).found ≡ take left (map (λ (e : Item). e.position.0) (keep (hit q) es)))
unfolding walk_list visit matched keep pick
list_found q zero [] rise whole = (refl, refl)
list_found q (suc n) [] rise whole = (refl, refl)
list_found q zero (e ∷ es) rise whole = (refl, refl)
list_found q (suc n) (e ∷ es) rise whole =
    rw (eqb-suc-zero n, whole.0) (go (ltb (item_time q e) q.begin) (hit q e) refl refl (λ m. list_found q m es rise.1 whole.1))
  where
    positions : List Item → List ℕ
    positions = map (λ (e : Item). e.position.0)

    go : (late h : Bool) → ltb (item_time q e) q.begin ≡ late → hit q e ≡ h
        → ((m : ℕ) → ((walk_list (visit q) m es).answer ≡ Done) × ((walk_list (visit q) m es).found ≡ take m (positions (keep (hit q) es))))
        → ((pick late (after (pick h (e.position.0 ∷ []) []) (ends Done)) (after (pick h (e.position.0 ∷ []) []) (walk_list (visit q) (suc n - length (pick h (e.position.0 ∷ []) [])) es))).answer ≡ Done)
        × ((pick late (after (pick h (e.position.0 ∷ []) []) (ends Done)) (after (pick h (e.position.0 ∷ []) []) (walk_list (visit q) (suc n - length (pick h (e.position.0 ∷ []) [])) es))).found ≡ take (suc n) (positions (pick h (e ∷ keep (hit q) es) (keep (hit q) es))))
    go true h w v ih =
        rw (sym v ∙ early q e (ltb-true _ _ w), none_early q e.seconds es (ltb-true _ _ w) rise.0) (refl, refl)
    go false true w v ih =
        let d : suc n - 1 ≡ n = omega arith in
        rw d ((ih n).0, ap {B = List ℕ} (λ r. e.position.0 ∷ r) (ih n).1)
    go false false w v ih = rw sub-zero (ih (suc n))

-- a test that implies another one
pub keep_keep : (p r : Item → Bool) (xs : List Item) → ((x : Item) → p x ≡ true → r x ≡ true) → keep p (keep r xs) ≡ keep p xs
unfolding keep pick
keep_keep p r [] f = refl
keep_keep p r (x ∷ xs) f = go (r x) (p x) refl refl (keep_keep p r xs f)
  where
    go : (a b : Bool) → r x ≡ a → p x ≡ b → keep p (keep r xs) ≡ keep p xs → keep p (pick a (x ∷ keep r xs) (keep r xs)) ≡ pick b (x ∷ keep p xs) (keep p xs)
    go true true u v ih = rw v (ap {B = List Item} (λ t. x ∷ t) ih)
    go true false u v ih = rw v ih
    go false true u v ih = let z : true ≡ false = sym (f x v) ∙ u in cc
    go false false u v ih = ih
