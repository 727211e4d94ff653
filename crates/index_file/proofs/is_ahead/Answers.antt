-- `index_file::is_ahead` meets its contract: its tests are the definition's. Assumes nothing.
use Rattle.index_file.proofs.Items.{ahead_judged}
use Rattle.index_file.proofs.is_ahead.Goals as goal

pub returns : goal.returns
returns c = ahead_judged _ _ c.used_count.ensures c.get_u64.ensures
