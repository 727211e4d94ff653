-- `dispatch_request::makes_entry` meets its contract. Assumes nothing.
use Rattle.dispatch_request.proofs.Duties.{entry_none, entry_commit, entry_other}
use Rattle.dispatch_request.proofs.makes_entry.Goals as goal

pub returns-in-0 : goal.returns-in-0
returns-in-0 c = entry_none _ c.transaction_of-transaction.ensures c.in-0.is

pub returns-in-8 : goal.returns-in-8
returns-in-8 c = entry_commit _ c.transaction_of-transaction.ensures c.in-8.is

pub returns-in_default : goal.returns-in_default
returns-in_default c = entry_other _ c.transaction_of-transaction.ensures c.in_default.in_default-own.rest.0.1 c.in_default.in_default-own.rest.1
