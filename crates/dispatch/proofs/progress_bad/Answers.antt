-- `dispatch::progress_bad` meets its contract: its tests are the definition's. Assumes nothing.
use Rattle.dispatch.proofs.DispatchDoor.{progress_judged}
use Rattle.dispatch.proofs.progress_bad.Goals as goal

pub returns : goal.returns
returns c = progress_judged c.args.sizes c.args.log c.args.progress c.args.readable_end c.args.counts.now c.counts_ok.ensures
