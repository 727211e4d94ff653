-- `interface::counts_of` meets its contract: the numbers behind the position. Assumes nothing.
use Rattle.interface.proofs.Counts.{counts_lent}
use borrow.Author.Rules.{rules}
use Rattle.interface.proofs.counts_of.Goals as goal

pub returns : goal.returns
returns c = counts_lent c.args.progress.now (search rules)
