-- `java_hash::step` meets its contract. Assumes nothing.
use Rattle.std.proofs.Common.{refl}
use Rattle.java_hash.proofs.HashLaws.{one_more}
use Rattle.java_hash.proofs.step.Goals as goal

pub returns : goal.returns
returns c = one_more c.args.h c.args.unit c.mul31.ensures refl
