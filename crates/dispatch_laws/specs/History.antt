-- The items that steps put, newest first. Assumes nothing.
use Rattle.std.specs.Prelude.{ℕ, zero, suc, List}
use Rattle.index_laws.specs.History.{Put, item_puts}
use Rattle.machine.specs.Steps.{Outcome, moved, stopped}
use Rattle.dispatch_request.specs.Request.{View, Stands, stop, blank, request}
use Rattle.dispatch_step.specs.Step.{Fixed, State, position_of, stands_here, step_of}

-- the items of what stands at a state's position, put on ps: "First the unique key, then each non-empty part of KEYS"
unfoldable pub put_by : State → Stands → List Put → List Put
put_by s (stop a) ps = ps
put_by s (blank n) ps = ps
put_by s (request q hs) ps = item_puts (position_of s) q.store_time hs ps

-- after a step that is done, what `next` gives from there
unfoldable pub onward : Outcome State → List Put → (State → List Put) → List Put
onward (moved t) ps next = next t
onward (stopped a) ps next = ps

-- the items that n steps put, on ps
unfoldable pub puts : Fixed → View → ℕ → State → List Put → List Put
puts f v zero s ps = ps
puts f v (suc n) s ps =
    onward (step_of f v s) ps (λ t. puts f v n t (put_by s (stands_here f v s) ps))
