-- `index_query::walk_chain` meets its contract. The loop's invariant, `Going`: what is found so far and the walk from here are the whole. Assumes nothing.
use Rattle.index_query.proofs.WalkLoop.{Going}
use Rattle.index_query.proofs.walk_chain.Given as goal

abbrev pub invariant-loop-found : goal.invariant-loop-found
invariant-loop-found l = Going l.index.bytes.now l.index.slots.count l.criteria l.wanted l.initial.out l.out l.before l.number l.found l.read

abbrev pub decreases-loop-found : goal.decreases-loop-found
decreases-loop-found l = l.before
