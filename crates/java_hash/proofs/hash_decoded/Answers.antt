-- `java_hash::hash_decoded` meets its contract: the loop keeps `Left`. Assumes nothing.
use Rattle.std.proofs.Common.{arith}
use Rattle.utf8.proofs.Texts.{decoded_some}
use Rattle.java_hash.proofs.UnitLaws.{left_all, left_turn, left_stop, left_done}
use Rattle.java_hash.proofs.hash_decoded.Goals as goal

pub loop-i-init : goal.loop-i-init
loop-i-init g c = left_all _ _

pub returns-in_default : goal.returns-in_default
returns-in_default g c = left_stop _ _ c.loop-i.invariant c.loop-i-test.true (c.requires.told _ _ c.loop-i-test.true c.in_default.ensures)

pub loop-i-smaller : goal.loop-i-smaller
loop-i-smaller g c =
    let d = c.requires.told _ _ c.loop-i-test.true c.in-Some.ensures in
    omega (arith, d.fits, decoded_some _ _ c.loop-i-test.true d)

pub loop-i-preserved : goal.loop-i-preserved
loop-i-preserved g c = left_turn _ _ c.loop-i.invariant c.loop-i-test.true (c.requires.told _ _ c.loop-i-test.true c.in-Some.ensures) c.step_code-h.ensures

pub returns : goal.returns
returns g c = left_done _ _ c.loop-i.invariant c.loop-i-test.false
