-- `java_hash::hash_decoded` meets its contract: the loop keeps `Left`. Assumes nothing.
use Rattle.std.proofs.Common.{◌-◌, length}
use Rattle.java_hash.proofs.UnitLaws.{Left}
use Rattle.java_hash.proofs.hash_decoded.Given as goal

abbrev pub invariant-loop-i : goal.invariant-loop-i
invariant-loop-i g l = Left l.start l.s l.i l.h

abbrev pub decreases-loop-i : goal.decreases-loop-i
decreases-loop-i g l = length l.s - l.i
