-- `index_file::slots_bad` meets its contract: the slots read and those left decide. Assumes nothing.
use Rattle.index_file.proofs.Items.{slot_judged}
use Rattle.index_file.proofs.Listed.{judges_start, judges_on, judges_end}
use Rattle.index_file.proofs.slots_bad.Goals as goal

pub loop-hash-init : goal.loop-hash-init
loop-hash-init c = judges_start _ _ _

pub loop-hash-preserved : goal.loop-hash-preserved
loop-hash-preserved c =
    judges_on _ _ _ _ _ c.loop-hash.invariant c.loop-hash-test.true (slot_judged _ _ _ c.used_count-used.ensures c.slot_place.ensures.place c.get_u32.ensures)

pub returns : goal.returns
returns c = judges_end _ _ _ _ _ c.loop-hash.invariant c.loop-hash-test.false
