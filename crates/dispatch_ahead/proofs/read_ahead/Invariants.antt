-- `dispatch_ahead::read_ahead` meets its contract: before each turn the records read are kept; the list's part that was lent lies behind their items. Assumes nothing.
use lib.ListN.{length}
use Rattle.dispatch_ahead.specs.Ahead.{fixed_in, view_in}
use Rattle.dispatch_ahead.proofs.Reading.{Reading}
use Rattle.dispatch_ahead.proofs.read_ahead.Given as goal

abbrev pub invariant-loop-records : goal.invariant-loop-records
invariant-loop-records l =
    Reading (fixed_in l.call) (view_in l.call) l.fn.position l.most (length l.initial.list) l.place-items l.list l.at l.records l.items
