-- `index_file::slots_bad` meets its contract: the slots read and those left decide. Assumes nothing.
use Rattle.index_file.proofs.Listed.{Judges}
use Rattle.index_file.proofs.slots_bad.Given as goal

abbrev pub invariant-loop-hash : goal.invariant-loop-hash
invariant-loop-hash l = Judges l.slot_count l.index l.list l.bad l.hash-index
