-- What a run of steps promises. Assumes nothing.
use Rattle.std.specs.Prelude.{ℕ, ◌<◌, ◌≤◌, ◌≡◌, List, length, Result, MatchResult}
use Rattle.machine.specs.Steps.{moved, iterate, run}
use Rattle.dispatch_request.specs.Request.{View}
use Rattle.dispatch_step.specs.Step.{Fixed, State, state_of, step_of, stands_here}
use Rattle.dispatch_ahead.specs.Ahead.{stands_hashes}
use Rattle.dispatch.specs.declared.Dispatched.{Dispatched}
use Rattle.dispatch.specs.declared.TooShort.{TooShort}
use Rattle.dispatch.specs.Dispatch.{ran_of}

-- the steps done until a record with more items than the n places of the list
pub record UntilLong (f : Fixed) (v : View) (b n : ℕ) (s : State) (d : TooShort) (counts queues index : List ℕ) : Type 0 where
  pub walked : iterate (step_of f v) d.steps s ≡ moved (state_of d.progress counts queues index)
  pub under : d.steps ≤ b
  pub long : n < length (stands_hashes (stands_here f v (state_of d.progress counts queues index)))

-- it ends as a call does, or before such a record
abbrev pub Runs : Fixed → View → ℕ → ℕ → State → Result Dispatched TooShort → List ℕ → List ℕ → List ℕ → Type 0
Runs f v b n s r counts queues index =
    MatchResult r (λ (c : Dispatched). ran_of c counts queues index ≡ run (step_of f v) b s) (λ (d : TooShort). UntilLong f v b n s d counts queues index)
