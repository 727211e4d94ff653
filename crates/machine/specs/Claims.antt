-- What holds of a whole list of calls, and what an instance has to show for it. Assumes nothing.
use Rattle.std.specs.Prelude.{ℕ, ◌<◌, ◌≤◌, ◌≡◌, List, [], ◌∷◌, ◌++◌}
use Rattle.std.proofs.Math.Option.{some}
use Rattle.units.specs.declared.Answer.TheVariants.{BudgetSpent}
use Rattle.machine.specs.Steps.{moved}
use Rattle.machine.specs.Calls.{Machine, Call, accepted, door_at, call, with_budget, latest, Report, Chain, steps_in_all, final, passed, Steady, EachStops, Leads}

-- the claim about the list rs from the start s
pub record Resumed (M : Machine) (rs : List (Report M)) (s : M.State) : Type 0 where
  pub each : EachStops M rs s
  pub whole : Leads M (latest (passed M rs s)) (steps_in_all M rs) s (final M rs s)
  -- "If the last call is accepted and stops for any cause but a spent budget, one call from that start, made as the last one but with a budget above n,
  -- reports n steps and the same answer, progress, queues and index"
  pub once : (before : List (Report M)) (r : Report M) → rs ≡ before ++ r ∷ [] →
      door_at M r.made (final M before s) ≡ accepted →
      (r.got.answer ≡ BudgetSpent → ⊥) →
      (b : ℕ) → steps_in_all M rs < b →
      call M (with_budget M r.made b) s ≡ record { answer = r.got.answer; steps = steps_in_all M rs; state = final M rs s }

-- what an instance shows; `Holds` is what its step needs besides, as that the position is not below the log's start
pub record Laws (M : Machine) : Type 1 where
  pub Holds : M.Fixed → M.State → Type 0
  pub opened : (f : M.Fixed) (v : M.View) (s : M.State) → M.door f v s ≡ accepted → Holds f s
  pub kept : (f : M.Fixed) (v : M.View) (s t : M.State) → Holds f s → M.step f v s ≡ moved t → Holds f t
  pub stable : (f : M.Fixed) (v w : M.View) (s t : M.State) → Holds f s → M.Extends f v w →
      M.step f v s ≡ moved t → M.step f w s ≡ moved t
  pub reopened : (f : M.Fixed) (v w : M.View) (s t : M.State) → M.Extends f v w →
      M.door f v s ≡ accepted → M.door f w t ≡ accepted → M.door f w s ≡ accepted
  pub reflexive : (f : M.Fixed) (v : M.View) → M.Extends f v v

-- each step climbs towards the view's limit, as the position does towards the readable end
pub record Climbs (M : Machine) (L : Laws M) : Type 0 where
  pub height : M.State → ℕ
  pub limit : M.View → ℕ
  pub climbs : (f : M.Fixed) (v : M.View) (s t : M.State) → L.Holds f s → M.step f v s ≡ moved t →
      (height s < height t) × (height t ≤ limit v)

-- every list of calls resumes
abbrev pub Resumes : Type 1
Resumes = (M : Machine) → Laws M → (rs : List (Report M)) (s : M.State) → Chain M rs s → Steady M rs s → Resumed M rs s

-- the steps of a list are at most the limit of the last accepted view
abbrev pub Bounded : Type 1
Bounded =
    (M : Machine) (L : Laws M) (C : Climbs M L) (rs : List (Report M)) (s : M.State) → Chain M rs s → Steady M rs s →
    (d : Call M) → latest (passed M rs s) ≡ some d → steps_in_all M rs ≤ C.limit d.view
