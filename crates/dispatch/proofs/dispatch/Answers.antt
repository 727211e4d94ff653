-- `dispatch::dispatch` meets its contract: the checks of the door in their order, then the steps. Assumes nothing.
use mathlib.Core.Bool.{not}
use mathlib.Core.Path.{ap}
use Rattle.commit_log.proofs.LogDoor.{taken, refused}
use Rattle.directory.proofs.Judged.{counts_none, counts_some}
use Rattle.dispatch.proofs.DispatchDoor.{sizes_known, index_long, door_sizes, door_directory, door_position, door_header, door_open, door_sound, call_shut, call_runs, call_none}
use Rattle.dispatch.proofs.dispatch.Goals as goal

pub returns-then-not-sizes_fit : goal.returns-then-not-sizes_fit
returns-then-not-sizes_fit c = call_shut _ _ _ _ c.no_step.ensures (door_sizes _ _ _ (refused c.sizes_fit.ensures (ap not c.if-not-sizes_fit.true)))

pub queue_rows-requires : goal.queue_rows-requires
queue_rows-requires c = (sizes_known _ _ _ (taken c.sizes_fit.ensures (ap not c.if-not-sizes_fit.false))).entries

pub returns-then-is_none : goal.returns-then-is_none
returns-then-is_none c =
    call_shut _ _ _ _ c.no_step-then-is_none.ensures (door_directory _ _ _ (taken c.sizes_fit.ensures (ap not c.if-not-sizes_fit.false)) c.queue_rows.ensures (counts_none c.is_none.ensures c.if-is_none.true))

pub progress_bad-requires : goal.progress_bad-requires
progress_bad-requires c =
    (sizes_known _ _ _ (taken c.sizes_fit.ensures (ap not c.if-not-sizes_fit.false))).geometry

pub returns-then-progress_bad : goal.returns-then-progress_bad
returns-then-progress_bad c =
    call_shut _ _ _ _ c.no_step-then-progress_bad.ensures
    (door_position _ _ _ (taken c.sizes_fit.ensures (ap not c.if-not-sizes_fit.false)) c.queue_rows.ensures (counts_some c.is_none.ensures c.if-is_none.false).1 c.progress_bad.ensures c.if-progress_bad.true)

pub header_sound-requires : goal.header_sound-requires
header_sound-requires c =
    index_long _ _ _ (taken c.sizes_fit.ensures (ap not c.if-not-sizes_fit.false))

pub returns-then-not-header_sound : goal.returns-then-not-header_sound
returns-then-not-header_sound c =
    call_shut _ _ _ _ c.no_step-then-not-header_sound.ensures
    (door_header _ _ _ (taken c.sizes_fit.ensures (ap not c.if-not-sizes_fit.false)) c.queue_rows.ensures (counts_some c.is_none.ensures c.if-is_none.false).1 c.progress_bad.ensures c.if-progress_bad.false (refused c.header_sound.ensures (ap not c.if-not-header_sound.true)))

pub returns-then-budget-eq0 : goal.returns-then-budget-eq0
returns-then-budget-eq0 c =
    call_none _ _ _ _ c.no_step-then-budget-eq0.ensures c.if-budget-eq0.true
    (door_open _ _ _ (taken c.sizes_fit.ensures (ap not c.if-not-sizes_fit.false)) c.queue_rows.ensures (counts_some c.is_none.ensures c.if-is_none.false).1 c.progress_bad.ensures c.if-progress_bad.false (taken c.header_sound.ensures (ap not c.if-not-header_sound.false)))

pub run_call-requires : goal.run_call-requires
run_call-requires c =
    door_sound _ _ _ (taken c.sizes_fit.ensures (ap not c.if-not-sizes_fit.false)) c.queue_rows.ensures (counts_some c.is_none.ensures c.if-is_none.false).1 c.progress_bad.ensures c.if-progress_bad.false (taken c.header_sound.ensures (ap not c.if-not-header_sound.false))

pub returns : goal.returns
returns c =
    call_runs _ _ _ _ c.run_call.ensures
    (door_open _ _ _ (taken c.sizes_fit.ensures (ap not c.if-not-sizes_fit.false)) c.queue_rows.ensures (counts_some c.is_none.ensures c.if-is_none.false).1 c.progress_bad.ensures c.if-progress_bad.false (taken c.header_sound.ensures (ap not c.if-not-header_sound.false)))
