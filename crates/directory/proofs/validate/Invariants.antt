-- `directory::validate` meets its contract. The loop's invariant, `Noting`: the rows so far are distinct, and each has met its place. Assumes nothing.
use Prim.Native.Nat.{◌-◌}
use lib.ListN.{length}
use Rattle.directory.proofs.Judging.{Noting}
use Rattle.directory.proofs.validate.Given as goal

abbrev pub invariant-loop-at : goal.invariant-loop-at
invariant-loop-at l = Noting l.dir l.at l.rows l.met

abbrev pub decreases-loop-at : goal.decreases-loop-at
decreases-loop-at l = length l.dir - l.at
