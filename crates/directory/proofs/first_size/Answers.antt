-- `directory::first_size` meets its contract: a row begins with its length. Assumes nothing.
use native.Mathlib.Omega.{arith}
use Rattle.directory.proofs.Chain.{row_begins, first_row}
use Rattle.directory.proofs.first_size.Goals as goal

pub get_le-requires : goal.get_le-requires
get_le-requires c = let b = row_begins _ c.requires.0 c.requires.1 in let low = b.low in let fits = b.fits in (omega arith, omega arith)

pub returns : goal.returns
returns c = first_row _ c.requires.0 c.requires.1 c.get_le.ensures.0
