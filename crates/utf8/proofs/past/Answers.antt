-- `utf8::past` meets its contract: only characters were passed. Assumes nothing.
use native.Mathlib.Omega.{arith}
use Rattle.utf8.proofs.Texts.{behind_more}
use Rattle.utf8.proofs.past.Goals as goal

pub loop-i-preserved : goal.loop-i-preserved
loop-i-preserved g c = behind_more _ _ _ c.loop-i.invariant c.requires.some c.loop-i-test.true (c.requires.told _ (omega arith) c.if-stands.ensures)
