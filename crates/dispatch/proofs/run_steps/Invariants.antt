-- `dispatch::run_steps` meets its contract: before each turn the steps counted are done; then one is stopped, the list is too short, or the budget is spent. Assumes nothing.
use Prim.Native.Nat.{◌-◌}
use Rattle.dispatch_step.specs.Step.{state_of}
use Rattle.dispatch_step.proofs.StepKeeps.{Going}
use Rattle.dispatch_ahead.specs.Ahead.{fixed_in, view_in}
use Rattle.dispatch.proofs.run_steps.Given as goal

abbrev pub invariant-loop-steps : goal.invariant-loop-steps
invariant-loop-steps l =
    Going (fixed_in l.call) (view_in l.call) (state_of l.initial.now l.initial.counts l.initial.queues l.initial.index) (state_of l.now l.counts l.queues l.index) l.steps l.budget

abbrev pub decreases-loop-steps : goal.decreases-loop-steps
decreases-loop-steps l = l.budget - l.steps
