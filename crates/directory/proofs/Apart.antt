-- One row behind others that differ from it. Assumes nothing.
use Prim.Native.Nat.{ℕ, zero, suc, ◌+◌, ◌-◌}
use mathlib.Core.Path.{◌≡◌, refl, sym}
use mathlib.Core.Bool.{Bool, true, false, not}
use mathlib.Core.List.{List, [], ◌∷◌, ◌++◌}
use native.Mathlib.Omega.{arith}
use lib.ListN.{length, length-append, get_or-append}
use lib.Seq.{get_or-append_seam}
use Rattle.std.specs.Prelude.{None, Some}
use Rattle.codec.specs.Choice.{pick}
use Rattle.codec.proofs.Choices.{both}
use Rattle.directory.specs.Claims.{Fits}
use Rattle.directory.specs.Directory.{Queue, names, row_from, listed, distinct}
use Rattle.directory.proofs.Laws.{names_own, named, unlisted, from_found, from_none, later, once}

-- no row has this topic and id
abbrev pub Absent : List ℕ → ℕ → List Queue → Type 0
Absent topic id qs = (i : ℕ) → Fits topic id qs i → ⊥

module _ (topic : List ℕ) (id : ℕ) where
  sooner : {q : Queue} {qs : List Queue} {i : ℕ} → Fits topic id qs i → Fits topic id (q ∷ qs) (suc i)
  sooner g = let h = g.within in record { within = omega arith; named = g.named }

  pub absent_more : (qs : List Queue) (q : Queue) → Absent topic id qs → (names topic id q ≡ true → ⊥) → Absent topic id (qs ++ q ∷ [])
  absent_more [] q h n zero g = n g.named
  absent_more [] q h n (suc i) g = let w = g.within in omega arith
  absent_more (p ∷ qs) q h n zero g = h 0 (record { within = omega arith; named = g.named })
  absent_more (p ∷ qs) q h n (suc i) g = absent_more qs q (λ j f. h (suc j) (sooner f)) n i (later topic id g)

  absent_from : (n : ℕ) (qs : List Queue) → Absent topic id qs → row_from n topic id qs ≡ None
  unfolding row_from pick
  absent_from n [] h = refl
  absent_from n (q ∷ qs) h = go (names topic id q) refl (absent_from (n + 1) qs (λ i f. h (suc i) (sooner f)))
    where
      go : (t : Bool) → names topic id q ≡ t → row_from (n + 1) topic id qs ≡ None → pick t (Some n) (row_from (n + 1) topic id qs) ≡ None
      go true f e = absurd (h 0 (record { within = omega arith; named = f }))
      go false f e = e

pub apart_more : (qs : List Queue) (q : Queue) → distinct qs ≡ true → Absent q.topic q.id qs → distinct (qs ++ q ∷ []) ≡ true
unfolding distinct listed row_from
apart_more [] q e h = refl
apart_more (p ∷ qs) q e h =
    let b = both (not (listed (row_from 0 p.topic p.id qs))) (distinct qs) e in
    let n = from_none p.topic p.id 0 qs (unlisted (row_from 0 p.topic p.id qs) b.0) in
    let a = absent_more p.topic p.id qs q n (λ f. h 0 (record { within = omega arith; named = turned p q f })) in
    rw (absent_from p.topic p.id 0 (qs ++ q ∷ []) a)
    (apart_more qs q b.1 (λ i f. h (suc i) (sooner q.topic q.id f)))
  where
    turned : (p q : Queue) → names p.topic p.id q ≡ true → names q.topic q.id p ≡ true
    turned p q f = let n = named p.topic p.id q f in rw (n.0, n.1) (names_own p)

-- among distinct rows none has the topic and id of one before it
fits_left : {i : ℕ} (topic : List ℕ) (id : ℕ) (qs rs : List Queue) → Fits topic id qs i → Fits topic id (qs ++ rs) i
fits_left topic id qs rs f =
    let w = f.within in
    record { within = rw length-append (omega arith); named = rw (get_or-append qs rs _ _ w) f.named }

pub not_again : (qs rest : List Queue) (q : Queue) (m : ℕ) → distinct (qs ++ q ∷ rest) ≡ true → Some m ≡ row_from 0 q.topic q.id qs → ⊥
not_again qs rest q m e f =
    let h = (from_found q.topic q.id 0 qs m (sym f)).1 in
    let w = h.within in
    let s : Fits q.topic q.id (qs ++ q ∷ rest) (length qs) = record { within = rw length-append (omega arith); named = rw (get_or-append_seam qs q rest) (names_own q) } in
    let k = once q.topic q.id (qs ++ q ∷ rest) e (m - 0) (length qs) (fits_left q.topic q.id qs (q ∷ rest) h) s in
    omega arith
