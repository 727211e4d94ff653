-- `utf8::plain` meets its contract: the loop keeps `Gathered`. Assumes nothing.
use Prim.Native.Nat.{◌*◌}
use lib.Bits.{bit_or}
use Rattle.utf8.proofs.Words.{Gathered}
use Rattle.utf8.proofs.plain.Given as goal

abbrev pub invariant-loop-eight : goal.invariant-loop-eight
invariant-loop-eight l = Gathered l.s (8 * l.eight-index) (bit_or l.bits l.word)
