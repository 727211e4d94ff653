-- `utf8::is_four` meets its contract: the second byte's bounds, by the first. Assumes nothing.
use mathlib.Core.Path.{◌≡◌}
use lib.Dec.{eqb}
use Rattle.codec.specs.Choice.{pick}
use Rattle.utf8.proofs.Chars.{own_bound, common_bound, four_is}
use Rattle.utf8.proofs.is_four.Goals as goal
use Rattle.utf8.proofs.is_four.Goals.{then-a-eq240, else-a-eq240, then-a-eq244, else-a-eq244}

pub returns : goal.returns
returns c =
    let low : c.if-a-eq240.low ≡ pick (eqb c.args.a 240) 144 128 = elim c.if-a-eq240.branch [ then-a-eq240 w ↦ own_bound _ 240 144 128 w.if-a-eq240.true w.low-is | else-a-eq240 w ↦ common_bound _ 240 144 128 w.if-a-eq240.false w.low-is ] in
    let high : c.if-a-eq244.high ≡ pick (eqb c.args.a 244) 143 191 = elim c.if-a-eq244.branch [ then-a-eq244 w ↦ own_bound _ 244 143 191 w.if-a-eq244.true w.high-is | else-a-eq244 w ↦ common_bound _ 244 143 191 w.if-a-eq244.false w.high-is ] in
    four_is _ _ _ _ low high c.is_tail.ensures c.is_tail-2.ensures
