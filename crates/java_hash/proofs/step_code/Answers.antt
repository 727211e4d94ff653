-- `java_hash::step_code` meets its contract. Assumes nothing.
use Rattle.java_hash.proofs.UnitLaws.{one_unit, two_units}
use Rattle.java_hash.proofs.step_code.Goals as goal

pub returns-then-code-lt65536 : goal.returns-then-code-lt65536
returns-then-code-lt65536 c = one_unit _ _ c.if-code-lt65536.true c.step.ensures

pub returns : goal.returns
returns c = two_units _ _ c.if-code-lt65536.false c.step-2.ensures c.step-3.ensures
