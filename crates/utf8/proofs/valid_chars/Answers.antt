-- `utf8::valid_chars` meets its contract: only characters were passed. Assumes nothing.
use native.Mathlib.Omega.{arith}
use Rattle.utf8.proofs.Texts.{behind_none, behind_decoded, decoded_some, none_behind, all_behind}
use Rattle.utf8.proofs.valid_chars.Goals as goal

pub loop-i-init : goal.loop-i-init
loop-i-init c = behind_none _ _ (omega arith)

pub returns-in_default : goal.returns-in_default
returns-in_default c = none_behind _ _ c.loop-i.invariant c.loop-i-test.true c.in_default.ensures

pub loop-i-smaller : goal.loop-i-smaller
loop-i-smaller c = omega (arith, decoded_some _ _ c.loop-i-test.true c.in-Some.ensures, c.past_like-i.ensures.on, c.past_like-i.ensures.inside)

pub loop-i-preserved : goal.loop-i-preserved
loop-i-preserved c = behind_decoded _ _ _ c.loop-i.invariant c.loop-i-test.true c.in-Some.ensures c.past_like-i.ensures

pub returns : goal.returns
returns c = all_behind _ _ c.loop-i.invariant c.loop-i-test.false
