-- Which of 16 places the rows so far have met: where none was met, none so far belongs. Assumes nothing.
use Prim.Native.Nat.{◌<◌}
use mathlib.Core.Path.{◌≡◌}
use mathlib.Core.Bool.{Bool, true, false, true≢false}
use mathlib.Core.List.{List, [], ◌∷◌, ◌++◌}
use native.Mathlib.Omega.{arith}
use lib.ListN.{length, get_or, set}
use lib.Seq.{get_or-set_same, get_or-set_other}
use Rattle.directory.specs.Directory.{Queue, names}
use Rattle.directory.specs.Inner.{bucket_of}
use Rattle.directory.proofs.Laws.{named}
use Rattle.directory.proofs.Apart.{Absent, absent_more}

abbrev pub Met : List Queue → List Bool → Type 0
Met qs met = (q : Queue) → get_or met (bucket_of q) false ≡ false → Absent q.topic q.id qs

pub met_none : (met : List Bool) → Met [] met
met_none met q z i g = let w = g.within in omega arith

-- one row more
pub met_more : (qs : List Queue) (q : Queue) (met : List Bool) → bucket_of q < length met → Met qs met → Met (qs ++ q ∷ []) (set met (bucket_of q) true)
met_more qs q met long old r z = absent_more r.topic r.id qs q (old r (rw (get_or-set_other met (bucket_of q) (bucket_of r) true false other) at z)) differs
  where
    other : bucket_of r ≡ bucket_of q → ⊥
    other f = let w : true ≡ false = rw (f, get_or-set_same met (bucket_of q) true false long) at z in true≢false w

    differs : names r.topic r.id q ≡ true → ⊥
    differs f = let n = named r.topic r.id q f in other (rw (n.0, n.1))
