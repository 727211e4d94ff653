-- `codec::bytes_at` meets its contract. Assumes nothing.
use Rattle.codec.proofs.Parts.{lent_part}
use borrow.Author.Rules.{rules}
use Rattle.codec.proofs.bytes_at.Goals as goal

pub returns : goal.returns
returns g c = search (rules, lent_part)
