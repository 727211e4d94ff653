-- `index_file::is_full` meets its contract: its test is the definition's. Assumes nothing.
use native.Mathlib.Omega.{arith}
use Rattle.index_file.proofs.Items.{full_judged}
use Rattle.index_file.proofs.is_full.Goals as goal

pub returns : goal.returns
returns c = full_judged _ _ _ (omega arith)
