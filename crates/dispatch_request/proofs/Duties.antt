-- Rule 5, the row of a queue and the tag code. Assumes nothing.
use Prim.Native.Nat.{ℕ, ◌≤◌, ◌<◌}
use mathlib.Core.Path.{◌≡◌, refl, sym, ◌∙◌}
use mathlib.Core.Bool.{true, false}
use mathlib.Core.List.{List}
use native.Mathlib.Omega.{arith}
use lib.ListN.{length}
use Rattle.codec.specs.Choice.{pick}
use Rattle.utf8.specs.Utf8.{units, units_from}
use Rattle.java_hash.specs.Hash.{hash_from, hash_of, signed, carried, tag_code}
use Rattle.properties.specs.declared.Found.{Found}
use Rattle.properties.specs.declared.Found.TheVariants.{Absent, One, Many}
use Rattle.properties.specs.declared.Scanned.{Scanned}
use Rattle.properties.specs.Finder.{tags_name, finder, scanned, found_bytes}
use borrow.Author.Tests.{ne_eqb}
use Rattle.std.specs.Prelude.{Option, None, Some}
use Rattle.directory.specs.Directory.{queues as listed_queues, row_of}
use Rattle.directory.proofs.Laws.{row_found}
use Rattle.dispatch_request.specs.Request.{makes_entry, makes_items, row_number, tag_of}

-- ---- rule 5

module _ (type : ℕ) {t : ℕ} (e : t ≡ type) where
  pub entry_none : t ≡ 0 → true ≡ makes_entry type
  unfolding makes_entry
  entry_none k = rw (← e, k)

  pub entry_commit : t ≡ 8 → true ≡ makes_entry type
  unfolding makes_entry
  entry_commit k = rw (← e, k)

  pub entry_other : (t ≡ 0 → ⊥) → (t ≡ 8 → ⊥) → false ≡ makes_entry type
  unfolding makes_entry
  entry_other a b = rw (← e, ne_eqb t 0 a, ne_eqb t 8 b)

  pub items_rollback : t ≡ 12 → false ≡ makes_items type
  unfolding makes_items
  items_rollback k = rw (← e, k)

  pub items_other : (t ≡ 12 → ⊥) → true ≡ makes_items type
  unfolding makes_items
  items_other a = rw (← e, ne_eqb t 12 a)

-- ---- the row

-- the row that is found is one of 16
pub row_small : (topic : List ℕ) (id : ℕ) (d : List ℕ) (i : ℕ) {x : Option ℕ} → length (listed_queues d) ≤ 16 → x ≡ row_of topic id d → x ≡ Some i → i < 16
row_small topic id d i l e f = let w = (row_found topic id d i (sym e ∙ f)).within in omega arith

pub number_small : (topic : List ℕ) (id : ℕ) (d : List ℕ) → length (listed_queues d) ≤ 16 → row_number (row_of topic id d) ≤ 16
unfolding row_number
number_small topic id d l = go (row_of topic id d) refl
  where
    go : (x : Option ℕ) → x ≡ row_of topic id d → row_number x ≤ 16
    go None e = omega arith
    go (Some i) e = let s = row_small topic id d i l e refl in omega arith

pub number_listed : (topic : List ℕ) (id : ℕ) (d : List ℕ) → row_number (row_of topic id d) < 16 → row_number (row_of topic id d) < length (listed_queues d)
unfolding row_number
number_listed topic id d = go (row_of topic id d) refl
  where
    go : (x : Option ℕ) → row_of topic id d ≡ x → row_number x < 16 → row_number x < length (listed_queues d)
    go None e h = absurd (omega arith)
    go (Some i) e h = (row_found topic id d i e).within

-- ---- the tag code

pub tag_coded : (found : Found) (l value : List ℕ) {r : ℕ} → value ≡ found_bytes found l → r ≡ tag_code value → r ≡ tag_of found l
unfolding found_bytes tag_of tag_code hash_of units units_from hash_from signed carried pick
tag_coded Absent l value e f = f ∙ rw e
tag_coded (One p) l value e f = f ∙ rw e
tag_coded (Many p) l value e f = f ∙ rw e

pub tags_found : (l : List ℕ) {found : Scanned} → found ≡ scanned l → found.tags ≡ finder tags_name l
unfolding scanned
tags_found l e = rw e
