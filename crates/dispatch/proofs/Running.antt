-- Advances one behind the other, and one run behind another. Assumes nothing.
use Prim.Native.Nat.{ℕ, ◌+◌, ◌-◌, ◌≤◌, ◌<◌}
use mathlib.Core.Path.{◌≡◌, refl, sym, ◌∙◌, subst}
use mathlib.Core.List.{List}
use mathlib.Core.Logic.{inl, inr, ⊎_elim}
use native.Mathlib.Omega.{arith}
use lib.ListN.{length}
use Rattle.units.specs.declared.Answer.{Answer}
use Rattle.units.specs.declared.Answer.TheVariants.{BudgetSpent}
use Rattle.machine.specs.Steps.{Ran, run, Stops}
use Rattle.machine.proofs.Steps.{walk_add, run_spent, run_stopped, run_stops, stops_run}
use Rattle.dispatch_request.specs.Request.{View, Stands, stop, blank, request}
use Rattle.dispatch_request.proofs.Standing.{hashes_few}
use Rattle.dispatch_step.specs.Step.{Fixed, State, state_of, step_of, stands_here}
use Rattle.dispatch_step.specs.Door.{Admitted}
use Rattle.dispatch_step.proofs.StepKeeps.{Going, going_start, going_far}
use Rattle.dispatch_ahead.specs.declared.Ended.TheVariants as ends
use Rattle.dispatch_ahead.specs.declared.Advanced.{Advanced}
use Rattle.dispatch_ahead.specs.Ahead.{stands_hashes, Ends, Advances}
use Rattle.dispatch.specs.declared.TooShort.{TooShort}
use Rattle.dispatch.specs.Inner.{UntilLong}

-- ---- the loop

module _ (f : Fixed) (v : View) (s : State) (b : ℕ) where
  module _ (t : State) (k : ℕ) (g : Going f v s t k b) {n : ℕ} {r : Advanced} {u : State} (a : Advances f v (b - k) n t r u) where
    pub going_on : Going f v s u (k + r.steps) b
    going_on = going_far f v s b t k g r.steps a.walked (omega (arith, a.within, g.within))

    -- an advance that goes on has made a step
    pub going_steps : r.ended ≡ ends.Going → k < b → 0 < r.steps
    unfolding Ends
    going_steps e l = subst (Ends f v (b - k) n r.steps u) e a.ends (omega arith)

    -- a rule stops the next step
    pub runs_stopped : {x : Answer} → r.ended ≡ ends.Stopped x → record { answer = x; steps = k + r.steps; state = u } ≡ run (step_of f v) b s
    unfolding Ends
    runs_stopped e =
        let z = subst (Ends f v (b - k) n r.steps u) e a.ends in
        sym (run_stopped (step_of f v) (k + r.steps) b s going_on.walked z.1 (omega (arith, z.0, g.within)))

    -- the next record has more items than the list has places
    pub runs_long : r.ended ≡ ends.Long → UntilLong f v b n s (record { steps = k + r.steps; progress = u.progress }) u.counts u.queues u.index
    unfolding Ends
    runs_long e =
        record { walked = going_on.walked; under = going_on.within; long = subst (Ends f v (b - k) n r.steps u) e a.ends }

  pub runs_spent : (t : State) (k : ℕ) → Going f v s t k b → b ≤ k → record { answer = BudgetSpent; steps = k; state = t } ≡ run (step_of f v) b s
  runs_spent t k g l =
      let e : k ≡ b = omega (arith, g.within) in
      rw e (sym (run_spent (step_of f v) b s (rw (← e) g.walked)))

-- ---- one run behind another

module _ (f : Fixed) (v : View) where
  -- "properties 0 to 32,767": no record has more items than 16385
  few : (s : State) (x : Stands) → stands_here f v s ≡ x → length (stands_hashes x) ≤ 16385
  unfolding stands_hashes
  few s (stop a) e = omega arith
  few s (blank n) e = omega arith
  few s (request q hs) e = hashes_few f.directory f.sizes.geometry v s.progress.position q hs e

  module _ (s : State) (b n : ℕ) {d : TooShort} {counts queues index : List ℕ} (h : UntilLong f v b n s d counts queues index) where
    pub none_long : n ≡ 16385 → ⊥
    none_long m = omega (arith, h.long, few (state_of d.progress counts queues index) _ refl)

    -- what is left finds all in order
    pub rest_sound : Admitted f v s → Admitted f v (state_of d.progress counts queues index)
    rest_sound k = (going_far f v s b s 0 (going_start f v s b k) d.steps h.walked (omega (arith, h.under))).sound

    module _ {w : Ran State} (m : w ≡ run (step_of f v) (b - d.steps) (state_of d.progress counts queues index)) where
      rest : Stops (step_of f v) (b - d.steps) (state_of d.progress counts queues index) w
      rest = rw m (run_stops (step_of f v) (b - d.steps) (state_of d.progress counts queues index))

      pub rest_under : d.steps + w.steps ≤ b
      rest_under = ⊎_elim (λ x. omega (arith, x.0, h.under)) (λ x. omega (arith, x.0, h.under)) rest.first

      pub rest_joined : record { answer = w.answer; steps = d.steps + w.steps; state = w.state } ≡ run (step_of f v) b s
      rest_joined =
          stops_run (step_of f v) b s _
          (record {
            walked = walk_add (step_of f v) d.steps w.steps s h.walked ∙ rest.walked;
            first = ⊎_elim (λ x. inl (omega (arith, x.0, h.under), x.1)) (λ x. inr (omega (arith, x.0, h.under), x.1)) rest.first;
          })
