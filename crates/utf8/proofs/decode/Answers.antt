-- `utf8::decode` meets its contract: a law for each row. Assumes nothing.
use Rattle.utf8.proofs.Chars.{decoded1, decoded2, decoded3, decoded4, decoded0}
use Rattle.utf8.proofs.decode.Goals as goal

pub returns-then-ones-eq0 : goal.returns-then-ones-eq0
returns-then-ones-eq0 c = decoded1 _ _ c.requires c.leading_ones-ones.ensures c.if-ones-eq0.true c.of_one.ensures

pub returns-then-ones-eq2 : goal.returns-then-ones-eq2
returns-then-ones-eq2 c = decoded2 _ _ c.requires c.leading_ones-ones.ensures c.if-ones-eq2.true c.byte-b.ensures c.is_two.ensures c.of_two.ensures c.then_some.ensures

pub returns-then-ones-eq3 : goal.returns-then-ones-eq3
returns-then-ones-eq3 c =
    decoded3 _ _ c.requires c.leading_ones-ones.ensures c.if-ones-eq3.true c.byte-b.ensures c.byte-c.ensures c.is_three.ensures c.of_three.ensures
    c.then_some-then-ones-eq3.ensures

pub returns-then-ones-eq4 : goal.returns-then-ones-eq4
returns-then-ones-eq4 c =
    decoded4 _ _ c.requires c.leading_ones-ones.ensures c.if-ones-eq4.true c.byte-b.ensures c.byte-c.ensures c.byte-d.ensures c.is_four.ensures
    c.of_four.ensures c.then_some-then-ones-eq4.ensures

pub returns : goal.returns
returns c = decoded0 _ _ c.requires c.leading_ones-ones.ensures c.if-ones-eq0.false c.if-ones-eq2.false c.if-ones-eq3.false c.if-ones-eq4.false
