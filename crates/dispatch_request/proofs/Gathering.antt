-- Hashes gathered in a list. Assumes nothing.
use Prim.Native.Nat.{ℕ, ◌+◌, ◌-◌, ◌≤◌, ◌<◌}
use mathlib.Core.Path.{◌≡◌, refl, sym, ap, ◌∙◌}
use mathlib.Core.Bool.{Bool, true, false, not}
use mathlib.Core.List.{List, [], ◌∷◌, ◌++◌, append-nil, append_assoc}
use native.Mathlib.Omega.{arith}
use native.Mathlib.Numerals.{add-one}
use lib.Dec.{leb}
use lib.ListN.{length, set, take, drop, length-append, length-set}
use lib.Seq.{length-take-le, take-suc-set}
use borrow.Author.Tests.{leb-true, leb-false, not-true, not-false}
use Rattle.codec.specs.Choice.{pick}
use Rattle.units.specs.declared.Place.{Place}
use Rattle.java_hash.specs.Hash.{topic_hash, key_hash}
use Rattle.properties.specs.declared.Scanned.{Scanned}
use Rattle.properties.specs.Claims.{KeyLeads}
use Rattle.properties.specs.Parts.{filled}
use Rattle.properties.specs.Finder.{scanned, found_bytes}
use Rattle.properties.specs.Keys.{keys_from, key_places}
use Rattle.dispatch_request.specs.Request.{keys_at, record_hashes}
use Rattle.dispatch_request.specs.Inner.{hashes, filled_one, Gathered}
use Rattle.dispatch_request.proofs.Keys.{length_hashes, hashes_none, hashes_all}

gathered_none : (n : ℕ) (l : List ℕ) → Gathered [] n l n l
gathered_none n l = record { long = refl; all = λ h. (omega arith, sym (append-nil (take n l))); more = λ h. omega arith }

gathered_both : {a b : List ℕ} {n : ℕ} {l : List ℕ} {r : ℕ} {m : List ℕ} {s : ℕ} {q : List ℕ} → Gathered a n l r m → r ≤ length l → Gathered b r m s q → Gathered (a ++ b) n l s q
gathered_both {a} {b} {n} {l} f h g =
    let w = f.all h in
    let first = w.0 in
    let k = f.long in
    record {
      long = g.long ∙ f.long;
      all = λ i. let v = g.all (omega arith) in let second = v.0 in (rw (length-append a b) (omega arith), v.1 ∙ rw w.1 (append_assoc (take n l) a b));
      more = λ i. let v = g.more (omega arith) in rw (length-append a b) (omega arith);
    }

-- ---- the unique key

module _ (prefix : ℕ) (l : List ℕ) where
  pub unique_none : (key : List ℕ) → length key ≡ 0 → Gathered (hashes prefix (filled_one key)) 0 l 0 l
  unfolding hashes filled_one filled pick
  unique_none [] e = gathered_none 0 l
  unique_none (b ∷ key) e = absurd (omega arith)

  pub unique_one : (key : List ℕ) {h : ℕ} → (length key ≡ 0 → ⊥) → 0 < length l → h ≡ key_hash prefix key → Gathered (hashes prefix (filled_one key)) 0 l 1 (set l 0 h)
  unfolding hashes filled_one filled pick
  unique_one [] n k e = absurd (n refl)
  unique_one (b ∷ key) {h} n k e =
      record { long = simp length-set; all = λ i. (omega arith, rw (← e) (take-suc-set l 0 h k)); more = λ i. absurd (omega (arith, length-set l 0 h)) }

  -- the list has a place for it
  pub unique_fits : (key : List ℕ) {r : ℕ} {m : List ℕ} → 0 < length l → Gathered (hashes prefix (filled_one key)) 0 l r m → r ≤ length l
  unfolding filled_one pick
  unique_fits key {r} k g = go (leb r (length l)) refl
    where
      one : (t : Bool) → length (pick t (key ∷ []) []) ≤ 1
      one true = omega arith
      one false = omega arith

      go : (t : Bool) → leb r (length l) ≡ t → r ≤ length l
      go true e = leb-true r (length l) e
      go false e =
          let n = leb-false r (length l) e in
          let i = g.more (omega arith) in
          omega (arith, length_hashes prefix (filled_one key), one (filled key))

-- ---- the parts of KEYS: those in the list and those that are left are all

pub record Gathering (prefix : ℕ) (keys : List (List ℕ)) (first : ℕ) (l : List ℕ) (number : ℕ) (m : List ℕ) (left : List (List ℕ)) : Type 0 where
  pub start : first ≤ length l
  pub place : number ≤ length m
  pub long : length m ≡ length l
  pub rest : take number m ++ hashes prefix left ≡ take first l ++ hashes prefix keys

module _ (prefix : ℕ) (keys : List (List ℕ)) (first : ℕ) (l : List ℕ) where
  pub gathering_start : {left : List (List ℕ)} → left ≡ keys → first ≤ length l → Gathering prefix keys first l first l left
  gathering_start e h = record { start = h; place = h; long = refl; rest = rw e }

  module _ (number : ℕ) (m : List ℕ) {left : List (List ℕ)} (g : Gathering prefix keys first l number m left) where
    counted : number + length (hashes prefix left) ≡ first + length (hashes prefix keys)
    counted = rw (length-append, length-append, length-take-le number m g.place, length-take-le first l g.start) at (ap length g.rest)

    pub gathering_end : left ≡ [] → Gathered (hashes prefix keys) first l number m
    unfolding hashes
    gathering_end e =
        record {
          long = g.long;
          all = λ h. (let c = rw e at counted in omega arith, sym (append-nil (take number m)) ∙ (rw e at g.rest));
          more = λ h. absurd (omega (arith, g.place, g.long));
        }

    module _ (key : List ℕ) (behind : List (List ℕ)) (e : left ≡ key ∷ behind) where
      pub gathering_full : length m ≤ number → Gathered (hashes prefix keys) first l (number + 1) m
      unfolding hashes
      gathering_full h =
          let k = g.long in
          record {
            long = k;
            all = λ i. absurd (omega arith);
            more = λ i. let c = rw e at counted in omega arith;
          }

      pub gathering_on : {h : ℕ} → number < length m → h ≡ key_hash prefix key → Gathering prefix keys first l (number + 1) (set m number h) behind
      unfolding hashes
      gathering_on {h} k q =
          record {
            start = g.start;
            place = rw (length-set m number h) (omega arith);
            long = length-set m number h ∙ g.long;
            rest = rw (add-one number, take-suc-set m number h k, append_assoc (take number m) (h ∷ []) _, q) (rw e at g.rest);
          }

-- ---- all

module _ (makes : Bool) (topic p l : List ℕ) where
  pub none_made : not makes ≡ true → Gathered (record_hashes makes topic p) 0 l 0 l
  none_made e = rw (hashes_none makes topic p (not-true makes e)) (gathered_none 0 l)

  pub all_made : (found : Scanned) {prefix : ℕ} {unique keys : List ℕ} {first : ℕ} {m : List ℕ} {r : ℕ} {q : List ℕ} → not makes ≡ false → prefix ≡ topic_hash topic
      → found ≡ scanned p → unique ≡ found_bytes found.unique_key p → keys ≡ found_bytes found.keys p → 0 < length l
      → Gathered (hashes prefix (filled_one unique)) 0 l first m → Gathered (hashes prefix (keys_at (key_places keys) keys)) first m r q → Gathered (record_hashes makes topic p) 0 l r q
  all_made found {prefix} {unique} e t f u k h a b =
      rw (hashes_all makes topic p found (not-false makes e) t f u k) (gathered_both a (unique_fits prefix l unique h a) b)
