-- What a query finds, reads and leaves; the chains of a built index. Assumes nothing.
use Prim.Native.Nat.{ℕ, suc, ◌-◌, ◌≤◌, ◌<◌}
use mathlib.Core.Path.{◌≡◌, refl, sym, ap, ◌∙◌}
use mathlib.Core.Bool.{Bool, true, false, not, ◌&&◌, ◌||◌}
use mathlib.Core.List.{List, map}
use native.Mathlib.Omega.{arith}
use lib.Dec.{leb, eqb}
use lib.ListN.{length, take}
use borrow.Author.Tests.{eq-eqb, eqb-true, le-leb, leb-true}
use Rattle.codec.specs.Choice.{pick}
use Rattle.codec.proofs.Choices.{both}
use Rattle.java_hash.specs.Hash.{index_hash, slot_of}
use Rattle.java_hash.proofs.HashLaws.{slot_within}
use Rattle.units.specs.declared.Answer.TheVariants.{Done, BadSizes, BadHeader, Malformed}
use Rattle.index_file.specs.declared.Item.{Item}
use Rattle.index_query.specs.declared.Criteria.{Criteria}
use Rattle.index_file.specs.Index.{used_count, sizes_ok, header_sound, item_of}
use Rattle.index_query.specs.Walk.{ends, criteria_of, item_time, hit, damaged, visit, search}
use Rattle.index_query.specs.Query.{wanted_of, query_ok, query_walk, reported, queried}
use Rattle.index_laws.specs.History.{Put, build, oldest, in_slot, items, SecondsRise, keep, matches, chain}
use Rattle.index_laws.specs.Claims.{Built, QueryExact, ItemsStored, ChainsPartition}
use Rattle.index_query.specs.Claims.{ReadsFew, Unchanged, QueryRefused, BelowZero}
use Rattle.index_query.proofs.Walks.{search_reads}
use Rattle.index_file.proofs.Judged.{sizes_facts, header_sound_is}
use Rattle.index_laws.proofs.Chain.{linked_items, chain_kept, walk_chain, walk_list, linked_whole, all_keep, rise_keep, list_found, keep_keep}
use Rattle.index_laws.proofs.History.{Holds, length_items, built_holds}

-- an item that matches is in the slot of the hash
hit_slot : (k : ℕ) (q : Criteria) (e : Item) → hit q e ≡ true → in_slot k (slot_of k q.hash) e ≡ true
unfolding hit
hit_slot k q e h =
    let a = (both (eqb e.hash q.hash) (leb q.begin (item_time q e) && leb (item_time q e) q.end) h).0 in
    eq-eqb _ _ (ap (slot_of k) (eqb-true e.hash q.hash a))

module _ (k n : ℕ) (l : List ℕ) (ps : List Put) (b : Built k n l ps) where
  held : Holds k n (build k l ps) ps
  held = built_holds k n l ps b

  some : 0 < k
  some = (sizes_facts k n (length l) b.sizes).0.some

  short : length (items k ps) < suc (length ps)
  short = let a = length_items k ps in omega arith

  module _ (hash begin end : ℕ) where
    criteria : Criteria
    criteria = record { hash = hash; begin = begin; end = end; base = oldest ps }

    -- the walk is the walk over the listed items of its slot
    search_list : (wanted : ℕ) → search k (build k l ps) (criteria_of (build k l ps) hash begin end) wanted ≡ walk_list (visit criteria) wanted (keep (in_slot k (slot_of k hash)) (items k ps))
    unfolding search criteria criteria_of
    search_list wanted =
        rw (held.count, held.first, held.slots (slot_of k hash) (slot_within k hash some))
        (walk_chain (item_of k (build k l ps)) (visit criteria) k (slot_of k hash) (items k ps) held.chain (suc (length ps)) wanted (suc (length ps)) short short)

    search_finds : SecondsRise (items k ps) → (wanted : ℕ)
        → ((search k (build k l ps) (criteria_of (build k l ps) hash begin end) wanted).answer ≡ Done) × ((search k (build k l ps) (criteria_of (build k l ps) hash begin end) wanted).found ≡ take wanted (matches k ps hash begin end))
    unfolding matches criteria
    search_finds rise wanted =
        let es = keep (in_slot k (slot_of k hash)) (items k ps) in
        let f = list_found criteria wanted es (rise_keep (in_slot k (slot_of k hash)) (items k ps) rise)
        (all_keep (λ (e : Item). damaged e ≡ false) (in_slot k (slot_of k hash)) (items k ps) (linked_whole (item_of k (build k l ps)) k (items k ps) held.chain)) in
        rw (search_list wanted)
        (f.0, f.1 ∙ ap (λ (x : List Item). take wanted (map (λ (e : Item). e.position.0) x)) (keep_keep (hit criteria) (in_slot k (slot_of k hash)) (items k ps) (hit_slot k criteria)))

    -- on an index that was built nothing but the query itself can be refused
    asked_list : (topic key : List ℕ) → hash ≡ index_hash topic key → (wanted : ℕ) (out : List ℕ) → query_ok topic key begin end (wanted_of wanted) (length out) ≡ true
        → queried k n (build k l ps) topic key begin end wanted out ≡ reported (search k (build k l ps) (criteria_of (build k l ps) hash begin end) (wanted_of wanted)) out
    unfolding queried query_walk pick
    asked_list topic key e wanted out q =
        let s : sizes_ok k n (length (build k l ps)) ≡ true = rw (held.long, ← (sizes_facts k n (length l) b.sizes).1) b.sizes in
        rw (s, header_sound_is n (build k l ps) held.sound, q, e)

pub query_exact : QueryExact
unfolding reported
query_exact k n l ps b rise topic key first last wanted out q =
    let f = search_finds k n l ps b (index_hash topic key) first last rise (wanted_of wanted) in
    rw (asked_list k n l ps b (index_hash topic key) first last topic key refl wanted out q, f.1)
    (record { answer = f.0; found = refl; output = refl })

pub items_stored : ItemsStored
items_stored k n l ps b = rw (← length_items k ps) (linked_items (item_of k (build k l ps)) k (items k ps) (built_holds k n l ps b).chain)

pub chains_partition : ChainsPartition
unfolding chain
chains_partition k n l ps b s h =
    let g = built_holds k n l ps b in
    rw (g.count, g.slots s h, ← length_items k ps) (chain_kept (item_of k (build k l ps)) k s (items k ps) g.chain (suc (length (items k ps))) (omega arith))

-- ---- any bytes

pub reads_few : ReadsFew
unfolding queried query_walk reported pick
reads_few k n l topic key first last wanted out =
    go (not (sizes_ok k n (length l))) (not (header_sound n l)) (not (query_ok topic key first last (wanted_of wanted) (length out)))
  where
    go : (a b c : Bool) → (pick a (ends BadSizes) (pick b (ends BadHeader) (pick c (ends Malformed) (search k l (criteria_of l (index_hash topic key) first last) (wanted_of wanted))))).read ≤ used_count l - 1
    go true b c = omega arith
    go false true c = omega arith
    go false false true = omega arith
    go false false false = search_reads k l (criteria_of l (index_hash topic key) first last) (wanted_of wanted)

pub query_refused : QueryRefused
unfolding queried query_walk reported pick
query_refused k n l topic key first last wanted out h =
    go (sizes_ok k n (length l)) (header_sound n l) (query_ok topic key first last (wanted_of wanted) (length out)) h
  where
    go : (a b c : Bool) → (a && b && c) ≡ false
        → Unchanged out (reported (pick (not a) (ends BadSizes) (pick (not b) (ends BadHeader) (pick (not c) (ends Malformed) (search k l (criteria_of l (index_hash topic key) first last) (wanted_of wanted))))) out)
    go false b c e = record { found = refl; read = refl; output = refl }
    go true false c e = record { found = refl; read = refl; output = refl }
    go true true false e = record { found = refl; read = refl; output = refl }
    go true true true e = let o : ◌≡◌ {A = ℕ} 0 1 = cc in absurd (omega arith)

pub below_zero : BelowZero
below_zero before number h = go (leb 2147483648 number) refl
  where
    go : (t : Bool) → leb 2147483648 number ≡ t → (t || leb before number) ≡ leb before number
    go true e = sym (le-leb before number (let a = leb-true 2147483648 number e in omega arith))
    go false e = refl
