-- What is told of what stands at a position. Assumes nothing.
use Prim.Native.Nat.{ℕ, ◌≤◌, ◌<◌}
use mathlib.Core.Path.{◌≡◌, refl, ap, ◌∙◌}
use mathlib.Core.Bool.{Bool, true, false}
use mathlib.Core.List.{List}
use lib.Dec.{leb}
use lib.ListN.{length, take}
use borrow.Author.Tests.{leb-true, leb-false}
use Rattle.std.specs.Prelude.{Option, None, Some, Ok, Err}
use Rattle.codec.specs.Choice.{pick}
use Rattle.units.specs.declared.Answer.{Answer}
use Rattle.record.specs.declared.Entry.{Entry}
use Rattle.record.specs.declared.Entry.TheVariants.{Blank, Message}
use Rattle.dispatch_request.specs.declared.DispatchRequest.{DispatchRequest}
use Rattle.dispatch_request.specs.Request.{Stands, stop, blank, request}
use Rattle.dispatch_request.specs.Reading.{Next, next_of, InFront}
use Rattle.dispatch_ahead.specs.Ahead.{stands_hashes}

-- ---- what the arms of a `match` on it found

pub record_found : {r : Next} {x : Entry (Option DispatchRequest)} {o q : Option DispatchRequest} → r ≡ Ok x → x ≡ Message o → o ≡ q → r ≡ Ok (Message q)
record_found e f g = e ∙ ap Ok (f ∙ ap Message g)

-- ---- and what it says of what stands there

module _ (n : ℕ) where
  pub next_request : (x : Stands) (q : DispatchRequest) → next_of n x ≡ Ok (Message (Some q)) → (x ≡ request q (stands_hashes x)) × (length (stands_hashes x) ≤ n)
  unfolding next_of stands_hashes pick
  next_request (stop a) q e = absurd cc
  next_request (blank k) q e = absurd cc
  next_request (request p hs) q e = go (leb (length hs) n) refl e
    where
      go : (t : Bool) → leb (length hs) n ≡ t → pick {A = Next} t (Ok (Message (Some p))) (Ok (Message None)) ≡ Ok (Message (Some q)) → (request p hs ≡ request q hs) × (length hs ≤ n)
      go true w h = let same : p ≡ q = cc in (ap (λ (x : DispatchRequest). request x hs) same, leb-true (length hs) n w)
      go false w h = absurd cc

  pub next_long : (x : Stands) → next_of n x ≡ Ok (Message None) → n < length (stands_hashes x)
  unfolding next_of stands_hashes pick
  next_long (stop a) e = absurd cc
  next_long (blank k) e = absurd cc
  next_long (request p hs) e = go (leb (length hs) n) refl e
    where
      go : (t : Bool) → leb (length hs) n ≡ t → pick {A = Next} t (Ok (Message (Some p))) (Ok (Message None)) ≡ Ok (Message None) → n < length hs
      go true w h = absurd cc
      go false w h = leb-false (length hs) n w

  pub next_stop : (x : Stands) (a : Answer) → next_of n x ≡ Err a → x ≡ stop a
  unfolding next_of pick
  next_stop (stop b) a e = let same : b ≡ a = cc in ap stop same
  next_stop (blank k) a e = absurd cc
  next_stop (request p hs) a e = absurd (go (leb (length hs) n) e)
    where
      go : (t : Bool) → pick {A = Next} t (Ok (Message (Some p))) (Ok (Message None)) ≡ Err a → ⊥
      go true h = cc
      go false h = cc

  pub next_blank : (x : Stands) (k : ℕ) → next_of n x ≡ Ok (Blank k) → x ≡ blank k
  unfolding next_of pick
  next_blank (stop b) k e = absurd cc
  next_blank (blank j) k e = let same : j ≡ k = cc in ap blank same
  next_blank (request p hs) k e = absurd (go (leb (length hs) n) e)
    where
      go : (t : Bool) → pick {A = Next} t (Ok (Message (Some p))) (Ok (Message None)) ≡ Ok (Blank k) → ⊥
      go true h = cc
      go false h = cc

-- the hashes are in the list's front
pub in_front : (x : Stands) (list : List ℕ) → InFront x list → length (stands_hashes x) ≤ length list → take (length (stands_hashes x)) list ≡ stands_hashes x
unfolding InFront stands_hashes
in_front (stop a) list h k = refl
in_front (blank n) list h k = refl
in_front (request q hs) list h k = h k
