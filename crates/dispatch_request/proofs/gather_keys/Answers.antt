-- `dispatch_request::gather_keys` meets its contract: the hashes in the list, and those of the keys that are left, are all. Assumes nothing.
use mathlib.Core.Path.{◌≡◌, ◌∙◌}
use native.Mathlib.Omega.{arith}
use Rattle.properties.specs.Keys.{key_places}
use Rattle.dispatch_request.specs.Request.{keys_at}
use Rattle.dispatch_request.proofs.Texts.{keys_all_known, KeysKnown}
use Rattle.dispatch_request.proofs.Gathering.{gathering_start, gathering_on, gathering_end, gathering_full}
use Rattle.dispatch_request.proofs.gather_keys.Goals as goal

pub loop-key-init : goal.loop-key-init
unfolding keys_at
loop-key-init c =
    let all : let v = c.args.keys.now in c.into_iter-key-iterator.result ≡ keys_at (key_places v) v = c.into_iter-key-iterator.ensures.into_iter_gives ∙ c.new-key-items.ensures in
    record { can = tt; ends = tt; gathering = gathering_start _ _ _ _ all c.requires.1; known = rw all (keys_all_known _ _ c.requires.0) }

pub overflow_add-result : goal.overflow_add-result
overflow_add-result c = omega (arith, c.loop-key.invariant.gathering.place)

pub key_hash-requires : goal.key_hash-requires
key_hash-requires c = let known = rw c.in-Some.ensures.steps at c.loop-key.invariant.known in known.0

pub loop-key-preserved : goal.loop-key-preserved
loop-key-preserved c =
    let s = c.loop-key.invariant in
    let first = c.in-Some.ensures.steps in
    let known = rw first at s.known in
    record { can = tt; ends = tt; gathering = gathering_on _ _ _ _ _ _ s.gathering _ _ first (omega arith) c.key_hash.ensures; known = known.1 }

pub returns-then-list-number : goal.returns-then-list-number
returns-then-list-number c = gathering_full _ _ _ _ _ _ c.loop-key.invariant.gathering _ _ c.in-Some.ensures.steps c.if-list-number.true

pub returns : goal.returns
returns c = gathering_end _ _ _ _ _ _ c.loop-key.invariant.gathering c.in-None.ensures.steps.0
