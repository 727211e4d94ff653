-- `interface::put_progress` meets its contract. Assumes nothing.
use native.Mathlib.Omega.{arith}
use Rattle.interface.proofs.Counts.{progress_made}
use Rattle.interface.proofs.put_progress.Goals as goal

pub returns : goal.returns
returns c = let w = c.loop-i.invariant in progress_made _ _ _ w.long w.position (λ j h. w.counts j (omega arith))
