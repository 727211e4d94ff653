-- `index_file::sizes_ok` meets its contract: its tests are the definition's. Assumes nothing.
use Rattle.std.proofs.Common.{rules}
use Rattle.index_file.proofs.Judged.{sizes_out, sizes_judged}
use Rattle.index_file.proofs.sizes_ok.Goals as goal

pub returns-then-within : goal.returns-then-within
returns-then-within c = sizes_judged _ _ _ {a = c.contains.result} {b = c.contains-2.result} (search rules) (search rules) c.if-within.true

pub returns-else-within : goal.returns-else-within
returns-else-within c = sizes_out _ _ _ {a = c.contains.result} {b = c.contains-2.result} (search rules) (search rules) c.if-within.false
