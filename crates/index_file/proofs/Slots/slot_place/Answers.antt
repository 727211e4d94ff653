-- `index_file::Slots::slot_place` meets its contract: the slot is one of the K slots. Assumes nothing.
use native.Mathlib.Omega.{arith}
use Rattle.java_hash.proofs.HashLaws.{slot_within}
use Rattle.index_file.proofs.Slots.slot_place.Goals as goal

pub overflow_mul-result : goal.overflow_mul-result
overflow_mul-result c = omega (arith, slot_within c.args.self.count c.args.hash c.args.self.some)

pub overflow_add-result : goal.overflow_add-result
overflow_add-result c = omega (arith, slot_within c.args.self.count c.args.hash c.args.self.some)

pub returns : goal.returns
returns c =
    let w = slot_within c.args.self.count c.args.hash c.args.self.some in
    record { place = omega arith; within = omega arith }
