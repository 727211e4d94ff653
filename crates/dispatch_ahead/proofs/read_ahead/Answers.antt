-- `dispatch_ahead::read_ahead` meets its contract: before each turn the records read are kept; the list's part that was lent lies behind their items. Assumes nothing.
use mathlib.Core.Path.{refl}
use Rattle.std.proofs.Common.{rules}
use native.Mathlib.Omega.{arith}
use lib.ListN.{length-take}
use lib.Seq.{length-take-le}
use Rattle.std.proofs.lemmas.List.{set-get_or}
use Rattle.dispatch_ahead.proofs.Nexts.{record_found}
use Rattle.dispatch_ahead.proofs.Reading.{reading_start, reading_full, reading_all, reading_stop, reading_blank, reading_long, reading_on, items_fit, next_below}
use Rattle.dispatch_ahead.proofs.read_ahead.Goals as goal

pub loop-records-init : goal.loop-records-init
loop-records-init c = reading_start _ _ _ _ _ _ _ c.requires.1 refl (rw length-take (omega (arith, c.min-places.ensures)))

pub returns-then-list-items : goal.returns-then-list-items
returns-then-list-items c =
    rw set-get_or
    (reading_full _ _ _ _ _ _ _ _ _ _ c.loop-records.invariant _ (omega arith) c.if-list-items.true (omega arith))

pub returns-in-Err : goal.returns-in-Err
returns-in-Err c =
    rw set-get_or
    (reading_stop _ _ _ _ _ _ _ _ _ _ c.loop-records.invariant _ c.read_request-next.auto.list c.read_request-next.ensures _ (omega arith) c.in-Err.is)

pub returns-in-Ok-Blank : goal.returns-in-Ok-Blank
returns-in-Ok-Blank c =
    rw set-get_or
    (reading_blank _ _ _ _ _ _ _ _ _ _ c.loop-records.invariant _ c.read_request-next.auto.list c.read_request-next.ensures _ (omega arith) (search rules))

pub returns-in-Ok-Message-None : goal.returns-in-Ok-Message-None
returns-in-Ok-Message-None c =
    rw set-get_or
    (reading_long _ _ _ _ _ _ _ _ _ _ c.loop-records.invariant _ c.read_request-next.auto.list c.read_request-next.ensures _ (omega arith) (search rules))

pub overflow_add-items : goal.overflow_add-items
overflow_add-items c =
    let l = items_fit _ _ _ _ _ _ _ _ _ _ c.loop-records.invariant _ c.read_request-next.auto.list c.read_request-next.ensures (let m = rw c.in-Ok-Message-Some.is at c.in-Ok-Message-Some.field-0-is in record_found c.in-Ok-Message-Some.is m (rw m at (rw c.in-Ok-Message-Some.is at c.in-Ok-Message-Some.field-0-0-is))) in
    omega (arith, l, c.loop-records.invariant.long, c.requires.3.bound)

pub overflow_add-at : goal.overflow_add-at
overflow_add-at c =
    let l = next_below _ _ _ _ c.read_request-next.ensures (let m = rw c.in-Ok-Message-Some.is at c.in-Ok-Message-Some.field-0-is in record_found c.in-Ok-Message-Some.is m (rw m at (rw c.in-Ok-Message-Some.is at c.in-Ok-Message-Some.field-0-0-is))) in
    omega (arith, l, c.loop-records.invariant.within, c.requires.0.top)

pub loop-records-preserved : goal.loop-records-preserved
loop-records-preserved c =
    reading_on _ _ _ _ _ _ _ _ _ _ c.loop-records.invariant _ c.read_request-next.auto.list c.read_request-next.ensures (search rules) (omega arith)

pub returns : goal.returns
returns c =
    let places = length-take-le c.min-places.result c.args.requests.now (omega (arith, c.min-places.ensures)) in
    reading_all _ _ _ _ _ _ _ _ _ _ c.loop-records.invariant _ (omega (arith, places, c.loop-records-test.false, c.loop-records.auto)) (omega arith) (λ m. omega (arith, c.min-places.ensures, c.requires.3.one))
