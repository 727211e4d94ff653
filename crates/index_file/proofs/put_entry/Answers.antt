-- `index_file::put_entry` meets its contract: its steps are the definition's. Assumes nothing.
use Rattle.index_file.proofs.Puts.{entry_steps}
use Rattle.index_file.proofs.put_entry.Goals as goal

pub returns : goal.returns
returns c =
    entry_steps _ _ _ _ _ _ c.slot_place-slot.ensures.place c.get_u32-previous.ensures c.write.ensures c.put_u32.ensures
