-- A request read at a state that the door let through fits it. Assumes nothing.
use Prim.Native.Nat.{ℕ, ◌+◌, ◌*◌, ◌≤◌, ◌<◌}
use mathlib.Core.Path.{◌≡◌}
use mathlib.Core.List.{List}
use native.Mathlib.Omega.{arith}
use lib.ListN.{length}
use Rattle.consume_queue.proofs.Entering.{row_region, listed_rows}
use Rattle.dispatch_request.specs.declared.DispatchRequest.{DispatchRequest}
use Rattle.dispatch_request.specs.Request.{View, request}
use Rattle.dispatch_request.specs.Reading.{Listed}
use Rattle.dispatch_request.proofs.Standing.{request_found, request_listed}
use Rattle.dispatch_step.specs.Step.{Fixed, State, position_of, stands_here}
use Rattle.dispatch_step.specs.Door.{Ready, Admitted}

pub listed_of : (f : Fixed) (s : State) → Ready f s → Listed f.directory
listed_of f s y =
    let l = listed_rows f.directory f.sizes.queue_entries (length s.queues) y.rows y.listed in
    record { some = omega (arith, l.0, l.1); few = omega (arith, l.0, l.2) }

pub record Fits (f : Fixed) (s : State) (q : DispatchRequest) : Type 0 where
  pub most : q.total ≤ 4194304
  pub low : position_of s ≤ 1099511627776
  pub row : q.row ≤ 16
  pub region : q.row < 16 → (q.row * f.sizes.queue_entries + f.sizes.queue_entries) * 20 ≤ length s.queues

pub request_fits : (f : Fixed) (v : View) (s : State) (q : DispatchRequest) (hs : List ℕ) → Admitted f v s → stands_here f v s ≡ request q hs → Fits f s q
request_fits f v s q hs h e =
    let k = request_found f.directory f.sizes.geometry v s.progress.position q hs e in
    let y = h.ready in
    let l = listed_rows f.directory f.sizes.queue_entries (length s.queues) y.rows y.listed in
    let r = request_listed f.directory f.sizes.geometry v s.progress.position q hs (omega (arith, l.0, l.2)) e in
    record {
      most = k.most;
      low = omega (arith, h.within.to, h.within.end, h.geometry.top);
      row = r.0;
      region = λ (n : q.row < 16). row_region f.directory f.sizes.queue_entries (length s.queues) y.rows q.row y.listed (omega (arith, r.1 n, l.0)) y.entries;
    }
