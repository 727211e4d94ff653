-- The chain walk of a query, over any function that gives the item of a number and anything that is done at an item. Assumes nothing.
use Rattle.std.specs.Prelude.{ℕ, zero, suc, ◌+◌, ◌*◌, ◌-◌, Bool, not, ◌&&◌, ◌||◌, List, [], ◌∷◌, ◌++◌, leb, ltb, eqb, length}
use Rattle.codec.specs.Choice.{pick}
use Rattle.java_hash.specs.Hash.{slot_of}
use Rattle.units.specs.declared.Answer.{Answer}
use Rattle.units.specs.declared.Answer.TheVariants.{Done, ChainBroken}
use Rattle.index_file.specs.declared.Item.{Item}
use Rattle.index_query.specs.declared.Criteria.{Criteria}
use Rattle.index_file.specs.Index.{first_time, used_count, position_ok, slot_value, item_of}

-- how a walk ends: the answer, the items read, the positions found, newest first
pub record Walked : Type 0 where
  pub answer : Answer
  pub read : ℕ
  pub found : List ℕ

abbrev pub ends : Answer → Walked
ends a = record { answer = a; read = 0; found = [] }

-- w, after one more item that was read and that found ps
abbrev pub after : List ℕ → Walked → Walked
after ps w = record { answer = w.answer; read = suc w.read; found = ps ++ w.found }

-- "Item time is first time + 1000 × seconds"
abbrev pub item_time : Criteria → Item → ℕ
item_time q e = q.base + 1000 * e.seconds

unfoldable pub criteria_of : List ℕ → ℕ → ℕ → ℕ → Criteria
criteria_of index hash begin end = record { hash = hash; begin = begin; end = end; base = first_time index }

-- "Equal hash and time in range"
unfoldable pub hit : Criteria → Item → Bool
hit q e = eqb e.hash q.hash && (leb q.begin (item_time q e) && leb (item_time q e) q.end)

-- "its seconds negative or its position outside 0 to 2^40": a negative number reads as one with its top bit set
unfoldable pub damaged : Item → Bool
damaged e = leb 2147483648 e.seconds || not (position_ok e.position.0)

-- "write the position": what an item adds to the output
unfoldable pub matched : Criteria → Item → List ℕ
matched q e = pick (hit q e) (e.position.0 ∷ []) []

-- what is done at an item, with so many still wanted and the walk that would follow
abbrev pub Visit : Type 0
Visit = ℕ → Item → (ℕ → Walked) → Walked

-- "item read, and its seconds negative or its position outside 0 to 2^40, 16. .. Equal hash and time in range: write the position. Then, item
-- time below the range's start, 0. Items read are counted, the bad one included"
unfoldable pub visit : Criteria → Visit
visit q left e rest =
    pick (damaged e) (after [] (ends ChainBroken))
    (pick (ltb (item_time q e) q.begin) (after (matched q e) (ends Done))
    (after (matched q e) (rest (left - length (matched q e)))))

-- "The walk ends at the first of these, in this order: enough found, 0; number is 0, 0; number negative or not below the number before ..,
-- 16; item read, ..". A negative number reads as one above every used count (`BelowZero`).
-- The first number bounds the links: it starts at the used count, and `walk_fuel` says that it never runs out.
unfoldable pub walk : (ℕ → Item) → Visit → ℕ → ℕ → ℕ → ℕ → Walked
walk look vis zero left before num = ends ChainBroken
walk look vis (suc fuel) left before num =
    pick (eqb left 0) (ends Done)
    (pick (eqb num 0) (ends Done)
    (pick (leb before num) (ends ChainBroken)
    (vis left (look num) (λ n. walk look vis fuel n num (look num).previous))))

-- "the number before (at first, the used count)": the walk from the slot of a hash
unfoldable pub search : ℕ → List ℕ → Criteria → ℕ → Walked
search k index q wanted = walk (item_of k index) (visit q) (used_count index) wanted (used_count index) (slot_value index (slot_of k q.hash))
