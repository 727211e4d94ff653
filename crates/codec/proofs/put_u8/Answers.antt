-- `codec::put_u8` meets its contract. Assumes nothing.
use borrow.Author.Rules.{rules}
use Rattle.codec.proofs.Parts.{overwrite_one}
use Rattle.codec.proofs.put_u8.Goals as goal

pub returns : goal.returns
returns c = search (overwrite_one, rules)
