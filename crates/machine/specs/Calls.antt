-- Calls of a machine, one after the other. Assumes nothing.
use Rattle.std.specs.Prelude.{ℕ, zero, ◌+◌, ◌≡◌, List, [], ◌∷◌}
use Rattle.std.proofs.Math.Option.{Option, none, some}
use Rattle.units.specs.declared.Answer.{Answer}
use Rattle.machine.specs.Steps.{Outcome, moved, Ran, iterate, run, Stops}

-- "a call is accepted if it passes the door"
pub data Door : Type 0 where
  accepted : Door
  refused : Answer → Door

-- Fixed: what stays the same over the accepted calls, as sizes, log start and directory. View: the log and its readable end. State: what a call gets
-- and leaves. Extends f v w: the view w may come after v.
pub record Machine : Type 1 where
  pub Fixed : Type 0
  pub View : Type 0
  pub State : Type 0
  pub door : Fixed → View → State → Door
  pub step : Fixed → View → State → Outcome State
  pub Extends : Fixed → View → View → Type 0

pub record Call (M : Machine) : Type 0 where
  pub fixed : M.Fixed
  pub view : M.View
  pub budget : ℕ

-- "Calls refused at the door change nothing"
unfoldable pub admit : {S : Type 0} → Door → S → Ran S → Ran S
admit accepted s r = r
admit (refused a) s r = record { answer = a; steps = zero; state = s }

unfoldable pub keep_if : {A : Type 0} → Door → A → List A → List A
keep_if accepted c cs = c ∷ cs
keep_if (refused a) c cs = cs

unfoldable pub latest : {A : Type 0} → List A → Option A
latest [] = none
latest (c ∷ []) = some c
latest (c ∷ d ∷ cs) = latest (d ∷ cs)

unfoldable pub Each : {A : Type 0} → (A → Type 0) → List A → Type 0
Each P [] = Unit {0}
Each P (c ∷ cs) = P c × Each P cs

-- R holds between each element and every later one
unfoldable pub Pairs : {A : Type 0} → (A → A → Type 0) → List A → Type 0
Pairs R [] = Unit {0}
Pairs R (c ∷ cs) = Each (R c) cs × Pairs R cs

module _ (M : Machine) where
  abbrev pub door_at : Call M → M.State → Door
  door_at c s = M.door c.fixed c.view s

  abbrev pub step_at : Call M → M.State → Outcome M.State
  step_at c = M.step c.fixed c.view

  -- one call: refused at the door, or a run under its budget
  unfoldable pub call : Call M → M.State → Ran M.State
  call c s = admit (door_at c s) s (run (step_at c) c.budget s)

  -- the call, but with another budget
  abbrev pub with_budget : Call M → ℕ → Call M
  with_budget c b = record { fixed = c.fixed; view = c.view; budget = b }

  -- a call that was made, and what it reported and left
  pub record Report : Type 0 where
    pub made : Call M
    pub got : Ran M.State

  -- "Each call gets these three as the call before returned or left them, and nobody else writes them": each did what `call` says
  unfoldable pub Chain : List Report → M.State → Type 0
  Chain [] s = Unit {0}
  Chain (r ∷ rs) s = (r.got ≡ call r.made s) × Chain rs r.got.state

  -- "the sum of the steps reported"
  unfoldable pub steps_in_all : List Report → ℕ
  steps_in_all [] = zero
  steps_in_all (r ∷ rs) = r.got.steps + steps_in_all rs

  -- the state after the list
  unfoldable pub final : List Report → M.State → M.State
  final [] s = s
  final (r ∷ rs) s = final rs r.got.state

  -- the accepted calls
  unfoldable pub passed : List Report → M.State → List (Call M)
  passed [] s = []
  passed (r ∷ rs) s = keep_if (door_at r.made s) r.made (passed rs r.got.state)

  -- the accepted call d may come after the accepted call c
  pub record Follows (c d : Call M) : Type 0 where
    pub same : c.fixed ≡ d.fixed
    pub grown : M.Extends c.fixed c.view d.view

  -- "Over the accepted calls, let .. stay the same, ..": between each accepted call and every later one
  unfoldable pub Steady : List Report → M.State → Type 0
  Steady rs s = Pairs Follows (passed rs s)

  -- "Each accepted call stops exactly where .."
  unfoldable pub EachStops : List Report → M.State → Type 0
  EachStops [] s = Unit {0}
  EachStops (r ∷ rs) s =
      (door_at r.made s ≡ accepted → Stops (step_at r.made) r.made.budget s r.got) × EachStops rs r.got.state

  -- "exactly those that n steps .. leave from the same start, over the last accepted call's log and readable end"; "with no accepted call n is 0 and
  -- all three are as at the start"
  unfoldable pub Leads : Option (Call M) → ℕ → M.State → M.State → Type 0
  Leads none n s t = (n ≡ 0) × (t ≡ s)
  Leads (some c) n s t = iterate (step_at c) n s ≡ moved t
