-- `dispatch_ahead::advance` meets its contract: before each turn as many steps are done as records are filed. Assumes nothing.
use Rattle.dispatch_step.specs.Step.{state_of}
use Rattle.dispatch_ahead.specs.Ahead.{fixed_in, view_in}
use Rattle.dispatch_ahead.proofs.Advancing.{Advancing}
use Rattle.dispatch_ahead.proofs.advance.Given as goal

abbrev pub invariant-loop-done : goal.invariant-loop-done
invariant-loop-done l =
    Advancing (fixed_in l.call) (view_in l.call) l.fn.progress.position l.read l.list l.good l.most (state_of l.initial.now l.initial.counts l.initial.queues l.initial.index) (state_of l.now l.counts l.queues l.index) l.first l.done
