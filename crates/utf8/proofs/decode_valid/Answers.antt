-- `utf8::decode_valid` meets its contract: the leading ones tell the row, and its bytes are there. Assumes nothing.
use native.Mathlib.Omega.{arith}
use Rattle.utf8.proofs.Chars.{room, valid1, valid2, valid3, valid4}
use Rattle.utf8.proofs.decode_valid.Goals as goal

pub returns-then-ones-eq0 : goal.returns-then-ones-eq0
returns-then-ones-eq0 c = valid1 _ _ c.requires.0 c.leading_ones-ones.ensures c.requires.1 c.if-ones-eq0.true c.of_one.ensures

pub bounds-s-at-2 : goal.bounds-s-at-2
bounds-s-at-2 c = omega (arith, room _ _ c.requires.0 c.leading_ones-ones.ensures c.requires.1 c.if-ones-eq0.false)

pub returns-then-ones-eq2 : goal.returns-then-ones-eq2
returns-then-ones-eq2 c = valid2 _ _ c.requires.0 c.leading_ones-ones.ensures c.requires.1 c.if-ones-eq2.true c.of_two.ensures

pub bounds-s-at-3 : goal.bounds-s-at-3
bounds-s-at-3 c = omega (arith, c.if-ones-eq2.false, room _ _ c.requires.0 c.leading_ones-ones.ensures c.requires.1 c.if-ones-eq0.false)

pub returns-then-ones-eq3 : goal.returns-then-ones-eq3
returns-then-ones-eq3 c = valid3 _ _ c.requires.0 c.leading_ones-ones.ensures c.requires.1 c.if-ones-eq3.true c.of_three.ensures

pub bounds-s-at-4 : goal.bounds-s-at-4
bounds-s-at-4 c =
    omega (arith, c.if-ones-eq2.false, c.if-ones-eq3.false, room _ _ c.requires.0 c.leading_ones-ones.ensures c.requires.1 c.if-ones-eq0.false)

pub returns : goal.returns
returns c = valid4 _ _ c.requires.0 c.leading_ones-ones.ensures c.requires.1 c.if-ones-eq0.false c.if-ones-eq2.false c.if-ones-eq3.false c.of_four.ensures
