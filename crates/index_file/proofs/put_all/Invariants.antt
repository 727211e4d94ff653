-- `index_file::put_all` meets its contract: with its header written, the index is where the puts so far bring it. Assumes nothing.
use Rattle.index_file.specs.Items.{put_all}
use Rattle.index_file.proofs.Headed.{Heads}
use Rattle.index_file.proofs.put_all.Given as goal

abbrev pub invariant-loop-hash : goal.invariant-loop-hash
invariant-loop-hash l =
    Heads l.fn.sizes.slot_count l.fn.sizes.item_count l.position l.store_time l.list (put_all l.fn.sizes.slot_count l.position.0 l.store_time l.list l.initial.index) l.first l.index l.used l.filled l.seconds l.hash-index
