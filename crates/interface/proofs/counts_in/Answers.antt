-- `interface::counts_in` meets its contract: the numbers behind the position. Assumes nothing.
use mathlib.Core.Path.{◌≡◌, ◌∙◌}
use lib.ListN.{take, drop}
use Rattle.interface.proofs.Counts.{counts_lent}
use borrow.Author.Rules.{rules}
use Rattle.interface.proofs.counts_in.Goals as goal

pub returns : goal.returns
returns c =
    let e : c.unwrap.result ≡ take 16 (drop 1 c.args.progress.now) = search rules in
    e ∙ counts_lent c.args.progress.now (search rules)
