-- `java_hash::onward` meets its contract: before each turn h is multiplied as often as there were turns. Assumes nothing.
use Rattle.std.proofs.Common.{◌≡◌, ◌*◌, ◌%◌, ◌^◌}
use Rattle.java_hash.proofs.onward.Given as goal

abbrev pub invariant-loop : goal.invariant-loop
invariant-loop g l = l.times ≡ 31 ^ l.counter * l.h % 4294967296
