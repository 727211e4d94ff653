-- Records read ahead: what holds before each turn, and how the loop ends. Assumes nothing.
use Prim.Native.Nat.{ℕ, zero, suc, ◌+◌, ◌-◌, ◌≤◌, ◌<◌}
use mathlib.Core.Path.{◌≡◌, refl, sym, ◌∙◌, ap}
use mathlib.Core.List.{List, ◌++◌}
use native.Mathlib.Numerals.{add-one}
use native.Mathlib.Omega.{arith}
use mathlib.Core.Logic.{◌≢◌}
use lib.ListN.{length, get_or, set, take, drop, take-append-drop, length-take, length-drop, length-append, length-set, get_or-append}
use lib.Seq.{length-take-le, take-append-le, take_at, drop_at}
use Rattle.std.proofs.lemmas.List.{get_or-set_same, get_or-set_other}
use borrow.Author.Count.{below_more}
use Rattle.std.specs.Prelude.{None, Some, Ok, Err}
use Rattle.codec.specs.Bytes.{part}
use Rattle.codec.proofs.Parts.{part_left}
use Rattle.units.specs.declared.Answer.{Answer}
use Rattle.units.specs.declared.LogPosition.{LogPosition}
use Rattle.record.specs.declared.Entry.TheVariants as entry
use Rattle.commit_log.specs.declared.Geometry.{Geometry}
use Rattle.commit_log.specs.Door.{Within}
use Rattle.dispatch_request.specs.declared.DispatchRequest.{DispatchRequest}
use Rattle.dispatch_request.specs.declared.TheConstants.DispatchRequest.{NONE}
use Rattle.dispatch_request.specs.Request.{View, request, stands_at}
use Rattle.dispatch_request.specs.Reading.{Next, next_of, Reads}
use Rattle.dispatch_request.proofs.Standing.{request_found, items_counted}
use Rattle.dispatch_step.specs.Step.{Fixed}
use Rattle.dispatch_ahead.specs.declared.Behind.{Behind}
use Rattle.dispatch_ahead.specs.declared.Behind.TheVariants.{Unread, Stop, Blank, Long}
use Rattle.dispatch_ahead.specs.Ahead.{stands_in, stands_total, stands_hashes, behind, items_before, Kept, BehindIs, Batched}
use Rattle.dispatch_ahead.proofs.Nexts.{next_request, next_long, next_stop, next_blank, in_front}

-- ---- what is kept

-- a part of what is in front
front : (n at m : ℕ) (l : List ℕ) → at + n ≤ m → m ≤ length l → part n at l ≡ part n at (take m l)
front n at m l h k =
    let e = length-take-le m l k in
    sym (ap (part n at) (take-append-drop m l)) ∙ part_left n at (take m l) (drop m l) (omega arith)

module _ (f : Fixed) (v : View) (p : LogPosition) where
  -- the items of a record are among those before any later one
  pub items_grow : (n i : ℕ) → i < n → items_before f v p (suc i) ≤ items_before f v p n
  unfolding items_before
  items_grow zero i h = absurd (omega arith)
  items_grow (suc n) i h =
      below_more (λ (k : ℕ). items_before f v p (suc k) ≤ items_before f v p (suc n)) n
      (λ k l. let g = items_grow n k l in omega arith)
      (omega arith)
      i
      (omega arith)

  module _ {i : ℕ} {q : DispatchRequest} where
    -- the list may change behind the record's items
    kept_front : {list : List ℕ} (list' : List ℕ) (m : ℕ) → Kept f v p i q list → items_before f v p (suc i) ≤ m → m ≤ length list
        → length list' ≡ length list → take m list' ≡ take m list → Kept f v p i q list'
    unfolding items_before
    kept_front {list} list' m k h s l e =
        let o = items_before f v p i in
        record {
          next = k.next;
          number = k.number;
          within = omega (arith, k.within);
          listed = front q.items o m list' (omega (arith, k.number)) (omega arith) ∙ ap (part q.items o) e ∙ sym (front q.items o m list (omega (arith, k.number)) s) ∙ k.listed;
        }

-- ---- the loop

-- before each turn: so many records were read and are in the places taken, with so many items, in a list of so many places
pub record Reading (f : Fixed) (v : View) (p : LogPosition) (most room : ℕ) (taken : List DispatchRequest) (list : List ℕ) (at : LogPosition) (records items : ℕ) : Type 0 where
  pub place : at ≡ behind f v p records
  pub counted : items ≡ items_before f v p records
  pub fits : items ≤ length list
  pub long : length list ≡ room
  pub under : length taken ≤ most
  pub within : Within f.sizes.geometry (length v.log) at v.end
  pub kept : (i : ℕ) → i < records → Kept f v p i (get_or taken i NONE) list

-- a list from whose place `items` on a part was lent, with that part back
abbrev pub back : ℕ → List ℕ → List ℕ → List ℕ
back items list sub = take items list ++ (sub ++ drop (length list - items) (drop items list))

-- the record that stands next ends below the readable end
pub next_below : (directory : List ℕ) (g : Geometry) (v : View) (at : LogPosition) {r : Next} {sub : List ℕ} {q : DispatchRequest}
    → Reads (stands_at directory g v at) r sub → r ≡ Ok (entry.Message (Some q)) → at.0 + q.total ≤ v.end.0
next_below directory g v at {sub} {q} n e =
    (request_found directory g v at q _ (next_request (length sub) (stands_at directory g v at) q (sym n.next ∙ e)).0).below

-- so much was read, and what was found stands behind it; behind the places that could be taken are others
ends : {f : Fixed} {v : View} {p : LogPosition} {most room : ℕ} {taken : List DispatchRequest} {list : List ℕ} {at : LogPosition} {records items : ℕ}
    → Reading f v p most room taken list at records items → (others : List DispatchRequest) → records ≤ length taken
    → (x : Behind) → BehindIs (stands_in f v (behind f v p records)) items (length list) x
    → ((x ≡ Unread → ⊥) → records < most) → (x ≡ Unread → 0 < most → 0 < records)
    → Batched f v p most (record { records = records; items = items; behind = x }) (taken ++ others) list
ends {taken} g others few x h l s =
    record {
      kept = λ i b. rw (get_or-append taken others NONE i (omega arith)) (g.kept i b);
      counted = g.counted;
      fits = g.fits;
      few = rw (length-append taken others) (omega arith);
      under = omega (arith, g.under);
      behind_is = h;
      left_off = l;
      some = s;
    }

module _ (f : Fixed) (v : View) (p : LogPosition) (most room : ℕ) (taken : List DispatchRequest) (list : List ℕ) where
  pub reading_start : Within f.sizes.geometry (length v.log) p v.end → length list ≡ room → length taken ≤ most → Reading f v p most room taken list p 0 0
  unfolding behind items_before
  reading_start w e m =
      record { place = refl; counted = refl; fits = omega arith; long = e; under = m; within = w; kept = λ i h. absurd (omega arith) }

  module _ (at : LogPosition) (records items : ℕ) (g : Reading f v p most room taken list at records items) where
    -- nothing more was looked at: the list is full
    pub reading_full : (others : List DispatchRequest) → records ≤ length taken → length list ≤ items → 0 < length list
        → Batched f v p most (record { records = records; items = items; behind = Unread }) (taken ++ others) list
    unfolding BehindIs items_before
    reading_full others few full some =
        ends g others few Unread tt (λ h. absurd (h refl)) (λ x m. go records refl)
      where
        go : (n : ℕ) → records ≡ n → 0 < records
        go zero e = let z : items ≡ 0 = (g.counted ∙ ap (items_before f v p) e) in omega arith
        go (suc n) e = omega arith

    -- or a record stands in each place
    pub reading_all : (others : List DispatchRequest) {n : ℕ} → n ≡ records → records ≤ length taken → (0 < most → 0 < n)
        → Batched f v p most (record { records = n; items = items; behind = Unread }) (taken ++ others) list
    unfolding BehindIs
    reading_all others e few some = rw e (ends g others few Unread tt (λ h. absurd (h refl)) (λ x m. omega (arith, some m)))

    module _ (sub : List ℕ) (l : length sub ≡ length (take (length list - items) (drop items list))) where
      room_left : length sub ≡ length list - items
      room_left = l ∙ rw (length-take, length-drop) (omega arith)

      as_long : length (back items list sub) ≡ length list
      as_long = simp (length-append, length-take, length-drop) (omega (arith, g.fits, room_left))

      -- what was kept lies in front of the part
      pub reading_lent : Reading f v p most room taken (back items list sub) at records items
      reading_lent =
          let e = take_at (take items list) (sub ++ drop (length list - items) (drop items list)) items (length-take-le items list g.fits) in
          record {
            place = g.place;
            counted = g.counted;
            fits = omega (arith, g.fits, as_long);
            long = as_long ∙ g.long;
            under = g.under;
            within = g.within;
            kept = λ i h. kept_front f v p (back items list sub) items (g.kept i h) (omega (arith, g.counted, items_grow f v p records i h)) g.fits as_long e;
          }

      module _ {r : Next} (n : Reads (stands_in f v at) r sub) where
        stands : {y : Next} → r ≡ y → next_of (length sub) (stands_in f v (behind f v p records)) ≡ y
        stands e = ap (λ (x : LogPosition). next_of (length sub) (stands_in f v x)) (sym g.place) ∙ sym n.next ∙ e

        -- what was read is no record, or one with too many items
        module _ (others : List DispatchRequest) (more : records < length taken) where
          ends_here : (x : Behind) → BehindIs (stands_in f v (behind f v p records)) items (length (back items list sub)) x → (x ≡ Unread → ⊥)
              → Batched f v p most (record { records = records; items = items; behind = x }) (taken ++ others) (back items list sub)
          ends_here x h u = ends reading_lent others (omega arith) x h (λ z. omega (arith, g.under)) (λ e. absurd (u e))

          pub reading_stop : {a : Answer} → r ≡ Err a
              → Batched f v p most (record { records = records; items = items; behind = Stop a }) (taken ++ others) (back items list sub)
          unfolding BehindIs
          reading_stop {a} e = ends_here (Stop a) (next_stop (length sub) _ a (stands e)) (λ u. let z : ◌≡◌ {A = ℕ} 0 1 = cc in omega arith)

          pub reading_blank : {k : ℕ} → r ≡ Ok (entry.Blank k)
              → Batched f v p most (record { records = records; items = items; behind = Blank k }) (taken ++ others) (back items list sub)
          unfolding BehindIs
          reading_blank {k} e = ends_here (Blank k) (next_blank (length sub) _ k (stands e)) (λ u. let z : ◌≡◌ {A = ℕ} 0 1 = cc in omega arith)

          pub reading_long : r ≡ Ok (entry.Message None)
              → Batched f v p most (record { records = records; items = items; behind = Long }) (taken ++ others) (back items list sub)
          unfolding BehindIs
          reading_long e =
              let w = next_long (length sub) (stands_in f v (behind f v p records)) (stands e) in
              ends_here Long (omega (arith, w, room_left, as_long, g.fits)) (λ u. let z : ◌≡◌ {A = ℕ} 0 1 = cc in omega arith)

        -- a turn: the record that stands next is kept too
        module _ {q : DispatchRequest} (e : r ≡ Ok (entry.Message (Some q))) where
          here : (stands_in f v (behind f v p records) ≡ request q (stands_hashes (stands_in f v (behind f v p records)))) × (length (stands_hashes (stands_in f v (behind f v p records))) ≤ length sub)
          here = next_request (length sub) (stands_in f v (behind f v p records)) q (stands e)

          items_are : q.items ≡ length (stands_hashes (stands_in f v (behind f v p records)))
          items_are = items_counted f.directory f.sizes.geometry v (behind f v p records) q _ here.0

          pub items_fit : items + q.items ≤ length list
          items_fit = omega (arith, here.1, items_are, room_left, g.fits)

          new : Kept f v p records q (back items list sub)
          unfolding items_before part
          new =
              record {
                next = here.0;
                number = items_are;
                within = omega (arith, items_fit, items_are, g.counted, as_long);
                listed =
                    rw (items_are, ← g.counted, drop_at (take items list) (sub ++ drop (length list - items) (drop items list)) items (length-take-le items list g.fits), take-append-le (length (stands_hashes (stands_in f v (behind f v p records)))) sub _ here.1)
                    (in_front (stands_in f v (behind f v p records)) sub (rw (← g.place) n.listed) here.1);
              }

          pub reading_on : records < length taken → Reading f v p most room (set taken records q) (back items list sub) (record { 0 = at.0 + q.total }) (records + 1) (items + q.items)
          unfolding behind items_before stands_total
          reading_on more =
              let z = next_below f.directory f.sizes.geometry v at n e in
              rw (add-one records)
              (record {
                place = rw (here.0, ← g.place);
                counted = rw (← g.counted, items_are);
                fits = omega (arith, items_fit, as_long);
                long = as_long ∙ g.long;
                under = rw (length-set taken records q) g.under;
                within = record { from = omega (arith, g.within.from); to = z; end = g.within.end };
                kept = λ i h.
                    below_more (λ (j : ℕ). Kept f v p j (get_or (set taken records q) j NONE) (back items list sub)) records
                    (λ j b. let ne : j ≢ records = omega arith in rw get_or-set_other (reading_lent.kept j b))
                    (rw get_or-set_same new)
                    i (rw (add-one records) h);
              })
