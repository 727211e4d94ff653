-- `dispatch_request::transaction_of` meets its contract. Assumes nothing.
use mathlib.Core.Path.{refl}
use Rattle.dispatch_request.specs.Request.{transaction}
use Rattle.dispatch_request.proofs.transaction_of.Goals as goal

pub returns : goal.returns
unfolding transaction
returns c = refl
