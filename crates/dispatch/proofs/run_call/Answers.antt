-- `dispatch::run_call` meets its contract: a run that ends the call, or one run behind another. Assumes nothing.
use native.Mathlib.Omega.{arith}
use Rattle.dispatch.proofs.Running.{rest_sound, rest_under, rest_joined}
use Rattle.dispatch.proofs.run_call.Goals as goal

pub run_long-rest-requires : goal.run_long-rest-requires
run_long-rest-requires c = rest_sound _ _ _ _ _ c.in-Err.ensures c.requires

pub overflow_add-result : goal.overflow_add-result
overflow_add-result c = omega (arith, rest_under _ _ _ _ _ c.in-Err.ensures c.run_long-rest.ensures, c.ranges.budget)

pub returns-in-Err : goal.returns-in-Err
returns-in-Err c = rest_joined _ _ _ _ _ c.in-Err.ensures c.run_long-rest.ensures
