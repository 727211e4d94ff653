-- `dispatch_ahead::advance` meets its contract: before each turn as many steps are done as records are filed. Assumes nothing.
use mathlib.Core.Path.{refl}
use native.Mathlib.Omega.{arith}
use Rattle.dispatch_step.proofs.Fits.{listed_of}
use Rattle.dispatch_ahead.proofs.Advancing.{advancing_start, turn_end, turn_fileable, turn_on, turn_off, pass_low, passed}
use Rattle.dispatch_ahead.proofs.advance.Goals as goal

pub read_ahead-read-requires : goal.read_ahead-read-requires
read_ahead-read-requires c =
    let p = c.requires in
    (p.0.geometry, p.0.within, listed_of _ _ p.0.ready, p.1)

pub loop-done-init : goal.loop-done-init
loop-done-init c = advancing_start _ _ _ _ _ _ c.requires.0 c.slots_bad-good.ensures refl

pub overflow_add-end : goal.overflow_add-end
overflow_add-end c =
    let within = turn_end _ _ _ _ _ _ _ c.read_ahead-read.ensures _ _ _ _ _ c.loop-done.invariant c.loop-done-test.true in
    omega (arith, within, c.read_ahead-read.auto.list, c.requires.1.bound)

pub offset_bounds-list-first : goal.offset_bounds-list-first
offset_bounds-list-first c =
    let within = turn_end _ _ _ _ _ _ _ c.read_ahead-read.ensures _ _ _ _ _ c.loop-done.invariant c.loop-done-test.true in
    omega (arith, within, c.read_ahead-read.auto.list, c.requires.1.bound)

pub slice_bounds-file-end : goal.slice_bounds-file-end
slice_bounds-file-end c =
    let within = turn_end _ _ _ _ _ _ _ c.read_ahead-read.ensures _ _ _ _ _ c.loop-done.invariant c.loop-done-test.true in
    omega (arith, within)

pub file-filed-requires : goal.file-filed-requires
file-filed-requires c =
    turn_fileable _ _ _ _ _ _ _ c.read_ahead-read.ensures _ _ _ _ _ c.loop-done.invariant c.loop-done-test.true (omega (arith, c.read_ahead-read.auto.list, c.requires.1.bound))

pub returns-in-Err : goal.returns-in-Err
returns-in-Err c =
    turn_off _ _ _ _ _ _ _ c.read_ahead-read.ensures _ _ _ _ _ c.loop-done.invariant c.loop-done-test.true _ _ _ _ c.file-filed.ensures _ c.in-Err.is

pub loop-done-preserved : goal.loop-done-preserved
loop-done-preserved c =
    turn_on _ _ _ _ _ _ _ c.read_ahead-read.ensures _ _ _ _ _ c.loop-done.invariant c.loop-done-test.true _ _ _ _ c.file-filed.ensures c.in-Ok.is

pub pass-requires : goal.pass-requires
pass-requires c =
    let p = c.requires.0 in (
      omega (arith, c.read_ahead-read.ensures.few, c.read_ahead-read.auto.requests, c.requires.1.few),
      λ n e. omega (arith, pass_low _ _ _ _ _ _ _ c.read_ahead-read.ensures _ _ _ _ _ c.loop-done.invariant c.loop-done-test.false n e, p.within.end, p.geometry.top),
    )

pub returns : goal.returns
returns c = passed _ _ _ _ _ _ _ c.read_ahead-read.ensures _ _ _ _ _ c.loop-done.invariant c.loop-done-test.false _ c.read_ahead-read.auto.list c.pass.ensures
