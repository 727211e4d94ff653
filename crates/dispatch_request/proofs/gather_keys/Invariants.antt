-- `dispatch_request::gather_keys` meets its contract: the hashes in the list, and those of the keys that are left, are all. Assumes nothing.
use Rattle.properties.specs.Keys.{key_places}
use Rattle.dispatch_request.specs.Request.{keys_at}
use Rattle.dispatch_request.proofs.Texts.{KeysKnown}
use Rattle.dispatch_request.proofs.Gathering.{Gathering}
use Rattle.dispatch_request.proofs.gather_keys.Given as goal

abbrev pub invariant-loop-key : goal.invariant-loop-key
invariant-loop-key l = record {
  can : (goal.iterator-loop-key).can_next l.key-iterator;
  ends : (goal.iterator-loop-key).is_finite l.key-iterator;
  gathering : Gathering l.prefix (keys_at (key_places l.keys) l.keys) l.first l.initial.list l.number l.list l.key-iterator;
  known : KeysKnown l.plain l.key-iterator;
}
