-- Calls of `swistopal_dispatch` that were made, one after the other. Assumes nothing.
use Rattle.std.specs.Prelude.{ℕ, ◌+◌, ◌≡◌, List, [], ◌∷◌}
use Rattle.units.specs.Answers.{number_of}
use Rattle.machine.specs.Calls.{Call, call, Report}
use Rattle.dispatch.specs.Dispatch.{dispatcher}
use Rattle.swistopal.specs.Interface.{Lent, state_in, call_in, Dispatches}

-- what a call is passed, but for what it is lent to change
pub record CallArguments : Type 0 where
  pub sizes : List ℕ
  pub directory : List ℕ
  pub log : List ℕ
  pub end : ℕ
  pub budget : ℕ

-- a call that was made: what it was passed, returned and left
pub record DispatchReport : Type 0 where
  pub passed : CallArguments
  pub answer : ℕ
  pub steps : ℕ
  pub left : Lent

abbrev pub linked_call : CallArguments → Call dispatcher
linked_call p = call_in p.sizes p.directory p.log p.end p.budget

-- "Each call gets these three as the call before returned or left them, and nobody else writes them": each did what its contract says
unfoldable pub Calls : List DispatchReport → Lent → Type 0
Calls [] l = Unit {0}
Calls (r ∷ rs) l = Dispatches (linked_call r.passed) l r.answer r.steps r.left × Calls rs r.left

-- the same calls, of the definition
unfoldable pub reports : List DispatchReport → Lent → List (Report dispatcher)
reports [] l = []
reports (r ∷ rs) l = record { made = linked_call r.passed; got = call dispatcher (linked_call r.passed) (state_in l) } ∷ reports rs r.left

-- "the sum of the steps reported"
unfoldable pub steps_reported : List DispatchReport → ℕ
steps_reported [] = 0
steps_reported (r ∷ rs) = r.steps + steps_reported rs

-- what the last call left
unfoldable pub last_left : List DispatchReport → Lent → Lent
last_left [] l = l
last_left (r ∷ rs) l = last_left rs r.left

-- each answer returned is the number of the definition's
unfoldable pub AnswersAre : List DispatchReport → Lent → Type 0
AnswersAre [] l = Unit {0}
AnswersAre (r ∷ rs) l = (r.answer ≡ number_of (call dispatcher (linked_call r.passed) (state_in l)).answer) × AnswersAre rs r.left
