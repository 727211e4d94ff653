-- Sizes and header, judged by the tests of their functions. Assumes nothing.
use Prim.Native.Nat.{ℕ, ◌+◌, ◌*◌, ◌-◌, ◌<◌, ◌≤◌, max}
use mathlib.Core.Path.{◌≡◌, refl, sym, ◌∙◌}
use mathlib.Core.Bool.{Bool, true, false, ◌&&◌, ◌||◌}
use mathlib.Core.List.{List}
use native.Mathlib.Omega.{arith}
use lib.Dec.{leb, ltb, eqb}
use lib.ListN.{length}
use borrow.Author.Tests.{leb-true, eqb-true, le-leb, lt-ltb, le-ltb}
use Rattle.std.proofs.Common.{Some, None}
use Rattle.codec.specs.Choice.{pick}
use Rattle.codec.proofs.Choices.{both, not_so}
use Rattle.units.specs.declared.Answer.TheVariants.{BadSizes, BadHeader}
use Rattle.index_file.specs.Index.{used_count, filled_slots, first_time, last_time, first_position, last_position, time_ok, position_ok, untouched, sizes_ok, header_sound, index_refusal, item_at}
use Rattle.index_file.specs.Claims.{DoorSized}

-- ---- sizes

pub record SizesIn (k n : ℕ) : Type 0 where
  pub some : 1 ≤ k
  pub most : k ≤ 5000000
  pub two : 2 ≤ n
  pub few : n ≤ 20000000

module _ (k n : ℕ) where
  abbrev limits : Bool
  limits = leb 1 k && leb k 5000000 && leb 2 n && leb n 20000000

  limits_in : limits ≡ true → SizesIn k n
  limits_in e =
      let a = both (leb 1 k && leb k 5000000 && leb 2 n) (leb n 20000000) e in
      let b = both (leb 1 k && leb k 5000000) (leb 2 n) a.0 in
      let c = both (leb 1 k) (leb k 5000000) b.0 in
      record { some = leb-true 1 k c.0; most = leb-true k 5000000 c.1; two = leb-true 2 n b.1; few = leb-true n 20000000 a.1 }

  -- both counts judged by their ranges, and then the length
  module _ (len : ℕ) {a b : Bool} (ea : a ≡ (leb 1 k && leb k 5000000)) (eb : b ≡ (leb 2 n && leb n 20000000)) where
    judged : {t : Bool} → (a && b) ≡ t → sizes_ok k n len ≡ (t && eqb len (40 + 4 * k + 20 * n))
    unfolding sizes_ok
    judged e = rw (← e, ea, eb) (go (leb 1 k && leb k 5000000) (leb 2 n))
      where
        go : (x y : Bool) → (x && y && leb n 20000000 && eqb len (40 + 4 * k + 20 * n)) ≡ ((x && (y && leb n 20000000)) && eqb len (40 + 4 * k + 20 * n))
        go true y = refl
        go false y = refl

    pub sizes_out : (a && b) ≡ false → (a && b) ≡ sizes_ok k n len
    sizes_out h = h ∙ sym (judged h)

    pub sizes_judged : (a && b) ≡ true → eqb len (40 + 4 * k + 20 * n) ≡ sizes_ok k n len
    sizes_judged h = sym (judged h)

  pub sizes_facts : (len : ℕ) → sizes_ok k n len ≡ true → SizesIn k n × (len ≡ 40 + 4 * k + 20 * n)
  unfolding sizes_ok
  sizes_facts len e = let a = both limits (eqb len (40 + 4 * k + 20 * n)) e in (limits_in a.0, eqb-true len (40 + 4 * k + 20 * n) a.1)

pub sizes_long : {s : Bool} (k n len : ℕ) → s ≡ sizes_ok k n len → s ≡ true → 40 ≤ len
sizes_long {s} k n len e h = let f = sizes_facts k n len (sym e ∙ h) in let x = f.1 in omega arith

-- ---- the header

pub record SoundHeader (n : ℕ) (l : List ℕ) : Type 0 where
  pub used : used_count l ≤ n
  pub filled : filled_slots l ≤ used_count l - 1
  pub first_time_is : first_time l ≤ 281474976710655
  pub last_time_is : last_time l ≤ 281474976710655
  pub first_position_is : first_position l ≤ 1099511627776
  pub last_position_is : last_position l ≤ 1099511627776
  pub fresh : (ltb 1 (used_count l) || untouched l) ≡ true

module _ (n : ℕ) (l : List ℕ) where
  abbrev counts : Bool
  counts = leb (used_count l) n && leb (filled_slots l) (used_count l - 1)

  abbrev times : Bool
  times = time_ok (first_time l) && time_ok (last_time l)

  abbrev positions : Bool
  positions = position_ok (first_position l) && position_ok (last_position l)

  pub header_facts : header_sound n l ≡ true → SoundHeader n l
  unfolding header_sound
  header_facts e =
      let a = both (counts && times && positions) (ltb 1 (used_count l) || untouched l) e in
      let b = both (counts && times) positions a.0 in
      let c = both counts times b.0 in
      let d = both (leb (used_count l) n) (leb (filled_slots l) (used_count l - 1)) c.0 in
      let t = both (time_ok (first_time l)) (time_ok (last_time l)) c.1 in
      let p = both (position_ok (first_position l)) (position_ok (last_position l)) b.1 in
      record {
        used = leb-true _ _ d.0;
        filled = leb-true _ _ d.1;
        first_time_is = leb-true _ _ t.0;
        last_time_is = leb-true _ _ t.1;
        first_position_is = leb-true _ _ p.0;
        last_position_is = leb-true _ _ p.1;
        fresh = a.1;
      }

  pub header_sound_is : SoundHeader n l → header_sound n l ≡ true
  unfolding header_sound
  header_sound_is s =
      rw (
        le-leb _ _ s.used,
        le-leb _ _ s.filled,
        le-leb _ _ s.first_time_is,
        le-leb _ _ s.last_time_is,
        le-leb _ _ s.first_position_is,
        le-leb _ _ s.last_position_is,
        s.fresh,
      )

  -- ---- its tests, one after the other: each refuses by itself

  not_sound : (SoundHeader n l → ⊥) → false ≡ header_sound n l
  not_sound h = not_so (header_sound n l) (λ e. h (header_facts e))

  pub used_above : {used : ℕ} → used ≡ used_count l → n < used → false ≡ header_sound n l
  used_above eu h = not_sound (λ s. omega (arith, s.used))

  pub filled_above : {used filled : ℕ} → used ≡ used_count l → filled ≡ filled_slots l → used - 1 < filled → false ≡ header_sound n l
  filled_above eu ef h = not_sound (λ s. omega (arith, s.filled))

  pub time_above : {a b m : ℕ} → a ≡ first_time l → b ≡ last_time l → m ≡ max a b → 281474976710655 < m → false ≡ header_sound n l
  time_above ea eb em h = not_sound (λ s. omega (arith, s.first_time_is, s.last_time_is))

  pub first_above : {c : ℕ} → c ≡ first_position l → 1099511627776 < c → false ≡ header_sound n l
  first_above ec h = not_sound (λ s. omega (arith, s.first_position_is))

  pub last_above : {d : ℕ} → d ≡ last_position l → 1099511627776 < d → false ≡ header_sound n l
  last_above ed h = not_sound (λ s. omega (arith, s.last_position_is))

  -- all have passed
  module _ {used filled a b m c d : ℕ} (eu : used ≡ used_count l) (ef : filled ≡ filled_slots l) (ea : a ≡ first_time l) (eb : b ≡ last_time l) (em : m ≡ max a b) (ec : c ≡ first_position l) (ed : d ≡ last_position l)
      (hu : used ≤ n) (hf : filled ≤ used - 1) (ht : m ≤ 281474976710655) (hc : c ≤ 1099511627776) (hd : d ≤ 1099511627776) where
    left_over : header_sound n l ≡ (ltb 1 used || (eqb a 0 && eqb b 0 && eqb c 0 && eqb d 0))
    unfolding header_sound untouched
    left_over =
        let ha : a ≤ 281474976710655 = omega arith in
        let hb : b ≤ 281474976710655 = omega arith in
        rw (← eu, ← ef, ← ea, ← eb, ← ec, ← ed, le-leb _ _ hu, le-leb _ _ hf, le-leb _ _ ha, le-leb _ _ hb, le-leb _ _ hc, le-leb _ _ hd)

    pub has_items : 1 < used → true ≡ header_sound n l
    has_items h = sym (left_over ∙ rw (lt-ltb 1 used h))

    pub has_none : used ≤ 1 → (eqb a 0 && eqb b 0 && eqb c 0 && eqb d 0) ≡ header_sound n l
    has_none h = sym (left_over ∙ rw (le-ltb 1 used h))

-- ---- the door, by both

module _ (k n : ℕ) (l : List ℕ) {s : Bool} (es : s ≡ sizes_ok k n (length l)) where
  pub refused_sizes : s ≡ false → Some BadSizes ≡ index_refusal k n l
  unfolding index_refusal pick
  refused_sizes a = rw (← es, a)

  module _ (a : s ≡ true) {h : Bool} (eh : h ≡ header_sound n l) where
    pub refused_header : h ≡ false → Some BadHeader ≡ index_refusal k n l
    unfolding index_refusal pick
    refused_header b = rw (← es, a, ← eh, b)

    module _ (b : h ≡ true) where
      pub not_refused : None ≡ index_refusal k n l
      unfolding index_refusal pick
      not_refused = rw (← es, a, ← eh, b)

      -- what an index that was opened keeps
      pub open_facts : (item_at k (used_count l) ≤ length l) × (used_count l ≤ 20000000) × (first_time l ≤ 281474976710655)
      open_facts =
          let f = sizes_facts k n (length l) (sym es ∙ a) in
          let d = header_facts n l (sym eh ∙ b) in
          ((let x = f.1 in let y = d.used in omega arith), omega (arith, f.0.few, d.used), d.first_time_is)

pub door_sized : DoorSized
door_sized k n l s h =
    let z = sizes_facts k n (length l) s in
    let w = header_facts n l h in
    record { some = z.0.some; most = z.0.most; few = z.0.few; long = z.1; count = (let a = w.used in omega arith); fill = (let a = w.filled in omega arith) }
