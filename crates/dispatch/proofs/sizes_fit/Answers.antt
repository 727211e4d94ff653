-- `dispatch::sizes_fit` meets its contract: its three tests are the definition's. Assumes nothing.
use Rattle.dispatch.proofs.DispatchDoor.{sizes_judged}
use Rattle.dispatch.proofs.sizes_fit.Goals as goal

pub returns : goal.returns
returns c = sizes_judged _ _ _ c.geometry_ok.ensures c.entries_ok.ensures c.sizes_ok.ensures
