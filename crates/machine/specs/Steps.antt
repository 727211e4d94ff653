-- Steps of a machine under a budget. `step` is one step of the rules, at fixed sizes and over a fixed log. Assumes nothing.
use Rattle.std.specs.Prelude.{ℕ, zero, suc, ◌<◌, ◌≡◌, ◌⊎◌}
use Rattle.units.specs.declared.Answer.{Answer}
use Rattle.units.specs.declared.Answer.TheVariants.{BudgetSpent}

-- what one step does: it is done and leaves a state, or a rule stops it with that rule's answer and nothing has changed
pub data Outcome (S : Type 0) : Type 0 where
  moved : S → Outcome S
  stopped : Answer → Outcome S

-- what a call reports and leaves
pub record Ran (S : Type 0) : Type 0 where
  pub answer : Answer
  pub steps : ℕ
  pub state : S

module _ {S : Type 0} where
  -- after a step that is done, what `next` does from there
  unfoldable pub and_then : Outcome S → (S → Outcome S) → Outcome S
  and_then (moved t) next = next t
  and_then (stopped a) next = stopped a

  -- "n steps have no budget, and none of them meets a stop": then `moved t`, t being what they leave; else the first stop
  unfoldable pub iterate : (S → Outcome S) → ℕ → S → Outcome S
  iterate step zero s = moved s
  iterate step (suc n) s = and_then (step s) (iterate step n)

  unfoldable pub one_more : Ran S → Ran S
  one_more r = record { answer = r.answer; steps = suc r.steps; state = r.state }

  unfoldable pub ran_from : Outcome S → S → (S → Ran S) → Ran S
  ran_from (moved t) s rest = one_more (rest t)
  ran_from (stopped a) s rest = record { answer = a; steps = zero; state = s }

  -- rule 1: "Budget spent: 9 (a budget of 0 gives 9 at once; ..)"; "The reported steps are exactly the steps done"
  unfoldable pub run : (S → Outcome S) → ℕ → S → Ran S
  run step zero s = record { answer = BudgetSpent; steps = zero; state = s }
  run step (suc b) s = ran_from (step s) s (run step b)

-- "stops exactly where document 01's rules first stop it under its own budget, with that rule's number": all steps reported are done, and then the
-- budget b is spent, or it is not and a rule stops the next step with the answer
pub record Stops {S : Type 0} (step : S → Outcome S) (b : ℕ) (s : S) (r : Ran S) : Type 0 where
  pub walked : iterate step r.steps s ≡ moved r.state
  pub first : ((r.steps ≡ b) × (r.answer ≡ BudgetSpent)) ⊎ ((r.steps < b) × (step r.state ≡ stopped r.answer))
