-- `dispatch_request::makes_items` meets its contract. Assumes nothing.
use Rattle.dispatch_request.proofs.Duties.{items_rollback, items_other}
use Rattle.dispatch_request.proofs.makes_items.Goals as goal

pub returns-in-12 : goal.returns-in-12
returns-in-12 c = items_rollback _ c.transaction_of-transaction.ensures c.in-12.is

pub returns-in_default : goal.returns-in_default
returns-in_default c = items_other _ c.transaction_of-transaction.ensures c.in_default.in_default-own.rest.1
