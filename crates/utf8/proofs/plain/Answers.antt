-- `utf8::plain` meets its contract: the loop keeps `Gathered`. Assumes nothing.
use Rattle.std.proofs.Common.{arith}
use Rattle.utf8.proofs.Words.{last_first, eight_more, words_end}
use Rattle.utf8.proofs.plain.Goals as goal

pub loop-eight-init : goal.loop-eight-init
loop-eight-init c = last_first _ (λ i. (c.type_inv.s i).fits) (omega arith) c.get_u64_le-word.ensures

pub loop-eight-preserved : goal.loop-eight-preserved
loop-eight-preserved c =
    eight_more _ (λ i. (c.type_inv.s i).fits) _ _ c.loop-eight.invariant (omega arith) c.as_chunks.ensures.front c.get_u64_le-word-in-loop-eight.ensures

pub returns : goal.returns
returns c = words_end _ _ _ c.loop-eight.invariant (omega arith)
