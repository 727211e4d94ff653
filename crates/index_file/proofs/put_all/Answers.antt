-- `index_file::put_all` meets its contract: with its header written, the index is where the puts so far bring it. Assumes nothing.
use native.Mathlib.Omega.{arith}
use mathlib.Core.Path.{sym, ◌∙◌}
use borrow.Author.Tests.{eqb-true, eqb-false}
use Rattle.index_file.proofs.Headed.{put_none, heads_start, heads_on, heads_end}
use Rattle.index_file.proofs.put_all.Goals as goal

pub returns-then-is_empty : goal.returns-then-is_empty
returns-then-is_empty c = put_none _ _ _ _ _ (eqb-true _ 0 (sym c.is_empty.ensures ∙ c.if-is_empty.true))

pub loop-hash-init : goal.loop-hash-init
loop-hash-init c =
    let p = c.requires in
    heads_start _ _ _ _ _ _ p c.used_count-first.ensures c.get_u64-first_time.ensures c.get_u32-filled.ensures c.seconds_of-seconds.ensures

pub loop-hash-preserved : goal.loop-hash-preserved
loop-hash-preserved c =
    heads_on _ _ _ _ _ _ _ _ _ _ _ _ c.loop-hash.invariant c.loop-hash-test.true (omega arith) c.put_entry-previous.ensures c.filled_after-filled.ensures c.seconds_after-seconds.ensures

pub returns : goal.returns
returns c =
    heads_end _ _ _ _ _ _ _ _ _ _ _ _ c.loop-hash.invariant (eqb-false _ 0 (sym c.is_empty.ensures ∙ c.if-is_empty.false)) c.loop-hash-test.false c.write_header.ensures
