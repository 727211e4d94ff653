-- `interface::put_progress` meets its contract: behind the position, the first i counts are in place. Assumes nothing.
use Prim.Native.Nat.{ℕ, ◌+◌, ◌<◌}
use mathlib.Core.Path.{◌≡◌}
use lib.ListN.{length, get_or}
use Rattle.interface.proofs.put_progress.Given as goal

abbrev pub invariant-loop-i : goal.invariant-loop-i
invariant-loop-i l =
    record {
      long : length l.progress ≡ 17;
      position : get_or l.progress 0 0 ≡ l.fn.made.position.0;
      counts : (j : ℕ) → j < l.i → get_or l.progress (j + 1) 0 ≡ get_or l.counts j 0;
    }
