-- `dispatch::run_long` meets its contract: its list has a place for each item of any record. Assumes nothing.
use mathlib.Core.Path.{refl}
use Rattle.dispatch.proofs.Running.{none_long}
use Rattle.dispatch.proofs.run_long.Goals as goal

pub unreachable-requires : goal.unreachable-requires
unreachable-requires c = none_long _ _ _ _ _ c.in-Err.ensures refl
