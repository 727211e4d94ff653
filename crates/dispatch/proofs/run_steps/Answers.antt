-- `dispatch::run_steps` meets its contract: before each turn the steps counted are done; then one is stopped, the list is too short, or the budget is spent. Assumes nothing.
use native.Mathlib.Omega.{arith}
use Rattle.dispatch_step.proofs.StepKeeps.{going_start}
use Rattle.dispatch.proofs.Running.{going_on, going_steps, runs_stopped, runs_long, runs_spent}
use Rattle.dispatch.proofs.run_steps.Goals as goal

pub loop-steps-init : goal.loop-steps-init
loop-steps-init c = going_start _ _ _ _ c.requires.0

pub loop-steps-smaller : goal.loop-steps-smaller
loop-steps-smaller c =
    omega (arith, going_steps _ _ _ _ _ _ c.loop-steps.invariant c.advance-advanced.ensures c.in-Going.is c.loop-steps-test.true, c.advance-advanced.ensures.within, c.loop-steps-test.true)

pub loop-steps-preserved : goal.loop-steps-preserved
loop-steps-preserved c = going_on _ _ _ _ _ _ c.loop-steps.invariant c.advance-advanced.ensures

pub returns-in-Stopped : goal.returns-in-Stopped
returns-in-Stopped c = runs_stopped _ _ _ _ _ _ c.loop-steps.invariant c.advance-advanced.ensures c.in-Stopped.is

pub returns-in-Long : goal.returns-in-Long
returns-in-Long c =
    rw (← c.loop-steps.auto.list) (runs_long _ _ _ _ _ _ c.loop-steps.invariant c.advance-advanced.ensures c.in-Long.is)

pub returns : goal.returns
returns c = runs_spent _ _ _ _ _ _ c.loop-steps.invariant c.loop-steps-test.false
