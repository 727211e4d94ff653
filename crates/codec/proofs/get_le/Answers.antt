-- `codec::get_le` meets its contract. Assumes nothing.
use Rattle.codec.proofs.Conversions.{read_short}
use Rattle.codec.proofs.get_le.Goals as goal

pub returns : goal.returns
returns c = read_short 7 c.args.w c.args.at c.args.s.now c.requires.0 c.requires.1 (λ i. (c.type_inv.s i).fits) c.copy_from_slice.ensures.after c.from_le_bytes.ensures
