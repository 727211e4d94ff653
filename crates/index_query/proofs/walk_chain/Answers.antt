-- `index_query::walk_chain` meets its contract. The loop's invariant, `Going`: what is found so far and the walk from here are the whole. Assumes nothing.
use mathlib.Core.Path.{sym, ◌∙◌}
use native.Mathlib.Omega.{arith}
use Rattle.index_query.proofs.WalkLoop.{begins, out_enough, out_last, out_high, out_damaged, out_early, again_pass, again_match}
use Rattle.index_query.proofs.walk_chain.Goals as goal

pub loop-found-init : goal.loop-found-init
loop-found-init c =
    begins _ _ _ _ _ _ _ c.used_count-before.ensures c.slot-number.ensures c.requires.1

pub read-item-requires : goal.read-item-requires
read-item-requires c = omega (arith, c.loop-found.invariant, c.if-before-number.false)

pub overflow_add-read : goal.overflow_add-read
overflow_add-read c = omega (arith, c.loop-found.invariant, c.args.index.now.few_items)

pub judge-requires : goal.judge-requires
judge-requires c =
    (c.requires.0, omega (arith, c.loop-found.invariant, c.args.index.now.few_items, c.if-before-number.false))

pub offset_bounds-out-found : goal.offset_bounds-out-found
offset_bounds-out-found c =
    omega (arith, c.loop-found.invariant, c.if-found-wanted.false)

pub bounds-out-found : goal.bounds-out-found
bounds-out-found c = omega (arith, c.loop-found.invariant, c.if-found-wanted.false)

pub overflow_add-found : goal.overflow_add-found
overflow_add-found c =
    omega (arith, c.loop-found.invariant, c.if-found-wanted.false)

pub loop-found-smaller-in-Match : goal.loop-found-smaller-in-Match
loop-found-smaller-in-Match c = c.if-before-number.false

pub loop-found-preserved-in-Match : goal.loop-found-preserved-in-Match
loop-found-preserved-in-Match c =
    again_match _ _ _ _ _ _ _ _ _ _ c.loop-found.invariant c.if-found-wanted.false c.if-number-eq0.false c.if-before-number.false _ c.read-item.ensures
    (sym c.in-Match.is ∙ c.judge.ensures)

pub loop-found-smaller : goal.loop-found-smaller
loop-found-smaller c = c.if-before-number.false

pub loop-found-preserved : goal.loop-found-preserved
loop-found-preserved c =
    again_pass _ _ _ _ _ _ _ _ _ _ c.loop-found.invariant c.if-found-wanted.false c.if-number-eq0.false c.if-before-number.false _ c.read-item.ensures
    (sym c.in-Pass.is ∙ c.judge.ensures)

pub shape_of-out-then-found-wanted : goal.shape_of-out-then-found-wanted
shape_of-out-then-found-wanted c = c.loop-found.invariant.long

pub returns-then-found-wanted : goal.returns-then-found-wanted
returns-then-found-wanted c = out_enough _ _ _ _ _ _ _ _ _ _ c.loop-found.invariant c.if-found-wanted.true _ c.new.ensures

pub shape_of-out-then-number-eq0 : goal.shape_of-out-then-number-eq0
shape_of-out-then-number-eq0 c = c.loop-found.invariant.long

pub returns-then-number-eq0 : goal.returns-then-number-eq0
returns-then-number-eq0 c = out_last _ _ _ _ _ _ _ _ _ _ c.loop-found.invariant c.if-number-eq0.true _ c.new-then-number-eq0.ensures

pub shape_of-out-then-before-number : goal.shape_of-out-then-before-number
shape_of-out-then-before-number c = c.loop-found.invariant.long

pub returns-then-before-number : goal.returns-then-before-number
returns-then-before-number c =
    out_high _ _ _ _ _ _ _ _ _ _ c.loop-found.invariant c.if-found-wanted.false c.if-number-eq0.false c.if-before-number.true _ c.new-then-before-number.ensures

pub shape_of-out-in-Damaged : goal.shape_of-out-in-Damaged
shape_of-out-in-Damaged c = c.loop-found.invariant.long

pub returns-in-Damaged : goal.returns-in-Damaged
returns-in-Damaged c =
    out_damaged _ _ _ _ _ _ _ _ _ _ c.loop-found.invariant c.if-found-wanted.false c.if-number-eq0.false c.if-before-number.false _ c.read-item.ensures
    (sym c.in-Damaged.is ∙ c.judge.ensures) _ c.new-in-Damaged.ensures

pub shape_of-out-in-Early : goal.shape_of-out-in-Early
shape_of-out-in-Early c = c.loop-found.invariant.long

pub returns-in-Early : goal.returns-in-Early
returns-in-Early c =
    out_early _ _ _ _ _ _ _ _ _ _ c.loop-found.invariant c.if-found-wanted.false c.if-number-eq0.false c.if-before-number.false _ c.read-item.ensures
    (sym c.in-Early.is ∙ c.judge.ensures) _ c.new-in-Early.ensures
