-- A query's door, and what the walk behind it may count on. Assumes nothing.
use Prim.Native.Nat.{ℕ, ◌≤◌}
use mathlib.Core.Path.{◌≡◌, refl, sym, ap, ◌∙◌}
use mathlib.Core.Bool.{Bool, true, false, not, ◌&&◌}
use mathlib.Core.List.{List}
use lib.Dec.{leb}
use lib.ListN.{length}
use Rattle.std.proofs.Common.{Some, None}
use Rattle.std.proofs.lemmas.Option.{none-some, same_Some}
use borrow.Author.Tests.{leb-true}
use Rattle.codec.specs.Choice.{pick}
use Rattle.codec.proofs.Choices.{both}
use Rattle.utf8.specs.Utf8.{valid, plain, Known}
use Rattle.utf8.proofs.Plains.{plain_valid}
use Rattle.java_hash.specs.Hash.{index_hash}
use Rattle.units.specs.declared.Answer.{Answer}
use Rattle.units.specs.declared.Answer.TheVariants.{BadSizes, BadHeader, Malformed}
use Rattle.index_file.specs.Index.{first_time, time_ok, sizes_ok, header_sound, index_refusal}
use Rattle.index_query.specs.declared.Criteria.{Criteria}
use Rattle.index_query.specs.declared.Queried.{Queried}
use Rattle.index_query.specs.Walk.{Walked, criteria_of, ends, search}
use Rattle.index_query.specs.Query.{wanted_of, text_fits, query_fits, query_ok, query_walk, QueryOutcome, reported, queried}
use Rattle.index_query.specs.Inner.{hash_if}

-- ---- the ways out of `hash_if`

pub unfit : {fits : Bool} (topic key : List ℕ) → fits ≡ false → None ≡ hash_if fits topic key
unfolding hash_if pick
unfit topic key a = rw a

pub unreadable : {fits t k : Bool} (topic key : List ℕ) → fits ≡ true → t ≡ valid topic → k ≡ valid key → (t && k) ≡ false → None ≡ hash_if fits topic key
unfolding hash_if pick
unreadable topic key a et ek b = rw (a, ← et, ← ek, b)

-- what is known of topic and key before they are hashed
abbrev pub KnownBoth : Bool → List ℕ → List ℕ → Type 0
KnownBoth so topic key = Known so topic × Known so key

module _ (topic key : List ℕ) {p q : Bool} (ep : p ≡ plain topic) (eq : q ≡ plain key) where
  own : p && q ≡ true → (plain topic ≡ true) × (plain key ≡ true)
  own e = let b = both p q e in (sym ep ∙ b.0, sym eq ∙ b.1)

  pub plain_both : (p && q) ≡ true → KnownBoth (p && q) topic key
  plain_both h =
      let o = own h in
      (record { text = plain_valid topic o.0; own = λ e. o.0 }, record { text = plain_valid key o.1; own = λ e. o.1 })

  pub valid_both : {t k : Bool} → t ≡ valid topic → k ≡ valid key → (t && k) ≡ true → KnownBoth (p && q) topic key
  valid_both {t} {k} et ek h =
      let b = both t k h in
      (record { text = sym et ∙ b.0; own = λ e. (own e).0 }, record { text = sym ek ∙ b.1; own = λ e. (own e).1 })

pub hashed_both : {fits so : Bool} {h : ℕ} (topic key : List ℕ) → fits ≡ true → KnownBoth so topic key → h ≡ index_hash topic key → Some h ≡ hash_if fits topic key
unfolding hash_if pick
hashed_both topic key a k e = rw (a, k.0.text, k.1.text, e)

-- ---- the ways out of `query`

-- a query that fits has a hash if its text is UTF-8: then it is well-formed
module _ (fits : Bool) (topic key : List ℕ) where
  no_hash : None ≡ hash_if fits topic key → (fits && (valid topic && valid key)) ≡ false
  unfolding hash_if pick
  no_hash e = go (fits && (valid topic && valid key)) e
    where
      go : (b : Bool) → None ≡ pick b (Some (index_hash topic key)) None → b ≡ false
      go true e = absurd (none-some _ e)
      go false e = refl

  some_hash : {hash : ℕ} → Some hash ≡ hash_if fits topic key → ((fits && (valid topic && valid key)) ≡ true) × (hash ≡ index_hash topic key)
  unfolding hash_if pick
  some_hash {hash} e = go (fits && (valid topic && valid key)) e
    where
      go : (b : Bool) → Some hash ≡ pick b (Some (index_hash topic key)) None → (b ≡ true) × (hash ≡ index_hash topic key)
      go true e = (refl, same_Some _ _ e)
      go false e = absurd (none-some _ (sym e))

module _ (k n : ℕ) (l topic key : List ℕ) (first last wanted : ℕ) (out : List ℕ) where
  abbrev Whole : QueryOutcome → Type 0
  Whole r = r ≡ queried k n l topic key first last wanted out

  -- a refusal
  refused : (a : Answer) (r : Queried) → r ≡ record { answer = a; found = 0; read = 0 } → query_walk k n l topic key first last wanted (length out) ≡ ends a → Whole (record { made = r; out = out })
  unfolding queried reported
  refused a r e h = rw (h, e)

  pub refused_index : {a : Answer} {r : Queried} → Some a ≡ index_refusal k n l → r ≡ record { answer = a; found = 0; read = 0 } → Whole (record { made = r; out = out })
  unfolding query_walk index_refusal pick
  refused_index {a} {r} h e = refused a r e (go (sizes_ok k n (length l)) (header_sound n l) _ h)
    where
      go : (s h : Bool) (rest : Walked) → Some a ≡ pick s (pick h None (Some BadHeader)) (Some BadSizes)
          → pick (not s) (ends BadSizes) (pick (not h) (ends BadHeader) rest) ≡ ends a
      go true true rest e = absurd (none-some a (sym e))
      go true false rest e = ap ends (sym (same_Some a BadHeader e))
      go false h rest e = ap ends (sym (same_Some a BadSizes e))

  module _ (opened : None ≡ index_refusal k n l) {most : ℕ} (em : most ≡ wanted_of wanted) {fits : Bool} (ef : fits ≡ query_fits (length topic) (length key) first last most (length out)) where
    -- an index that is opened is not refused
    past : query_walk k n l topic key first last wanted (length out)
        ≡ pick (not (fits && (valid topic && valid key))) (ends Malformed) (search k l (criteria_of l (index_hash topic key) first last) most)
    unfolding query_walk query_ok index_refusal pick
    past = go (sizes_ok k n (length l)) (header_sound n l) opened ∙ rw (← em, ← ef)
      where
        go : (s h : Bool) → None ≡ pick s (pick h None (Some BadHeader)) (Some BadSizes) → {rest : Walked}
            → pick (not s) (ends BadSizes) (pick (not h) (ends BadHeader) rest) ≡ rest
        go true true e = refl
        go true false e = absurd (none-some BadHeader e)
        go false h e = absurd (none-some BadSizes e)

    pub refused_query : {r : Queried} → None ≡ hash_if fits topic key → r ≡ record { answer = Malformed; found = 0; read = 0 } → Whole (record { made = r; out = out })
    unfolding pick
    refused_query {r} eg e = refused Malformed r e (past ∙ rw (no_hash fits topic key eg))

    -- the index that was opened is of these bytes and sizes
    pub asked : {k' hash : ℕ} {l' : List ℕ} {w : Criteria} {r : QueryOutcome} → l' ≡ l → k' ≡ k → Some hash ≡ hash_if fits topic key
        → w ≡ criteria_of l' hash first last → r ≡ reported (search k' l' w most) out → Whole r
    unfolding queried pick
    asked el ek eg ew er = let g = some_hash fits topic key eg in er ∙ rw (past, g.0, ew, g.1, el, ek)

-- what the walk may count on
pub base_within : (l : List ℕ) (hash first last : ℕ) {w : Criteria} → w ≡ criteria_of l hash first last → first_time l ≤ 281474976710655 → w.base ≤ 281474976710655
unfolding criteria_of
base_within l hash first last e h = rw e h

pub enough_places : (topic key : List ℕ) (first last most places : ℕ) {fits : Bool} {hash : ℕ}
    → fits ≡ query_fits (length topic) (length key) first last most places → Some hash ≡ hash_if fits topic key → most ≤ places
unfolding query_fits
enough_places topic key first last most places {fits} ef eg =
    let o = both fits (valid topic && valid key) (some_hash fits topic key eg).0 in
    let p = both ((text_fits 127 (length topic) && text_fits 32767 (length key)) && (leb first last && time_ok last)) (leb most places) (sym ef ∙ o.0) in
    leb-true most places p.1
