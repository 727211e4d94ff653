-- Lists of calls of `swistopal_dispatch` are lists of the definition's calls, so demand 3 and demand 2's query clause hold of them. Assumes nothing.
use Prim.Native.Nat.{◌+◌}
use mathlib.Core.Path.{◌≡◌, refl, ◌∙◌, ap, subst}
use mathlib.Core.List.{List, [], ◌∷◌}
use Rattle.units.specs.Answers.{number_of}
use Rattle.machine.specs.Calls.{call, Chain, steps_in_all, final}
use Rattle.dispatch_step.specs.Step.{State}
use Rattle.dispatch.specs.Dispatch.{dispatcher}
use Rattle.dispatch_laws.proofs.Demand3.{demand_3}
use Rattle.dispatch_laws.proofs.Built.{query_after_calls}
use Rattle.swistopal.specs.Interface.{Lent, state_in, Dispatch, dispatch_gives, Dispatches}
use Rattle.interface_laws.specs.Calls.{DispatchReport, linked_call, Calls, reports, steps_reported, last_left, AnswersAre}
use Rattle.interface_laws.specs.Claims.{CallsAre, LinkedDemand3, LinkedQuery}
use Rattle.interface_laws.proofs.Counts.{lent_counted, there_and_back, call_counted}

-- ---- a call

module _ (r : DispatchReport) (l : Lent) (did : Dispatches (linked_call r.passed) l r.answer r.steps r.left) where
  answer_is : r.answer ≡ number_of (call dispatcher (linked_call r.passed) (state_in l)).answer
  unfolding dispatch_gives
  answer_is = ap (λ (d : Dispatch). d.answer) did

  steps_are : r.steps ≡ (call dispatcher (linked_call r.passed) (state_in l)).steps
  unfolding dispatch_gives
  steps_are = ap (λ (d : Dispatch). d.steps) did

  -- what it left is the state that the definition's call leaves
  left_is : state_in r.left ≡ (call dispatcher (linked_call r.passed) (state_in l)).state
  unfolding dispatch_gives
  left_is =
      let c = linked_call r.passed in
      ap (λ (d : Dispatch). state_in d.left) did
      ∙ there_and_back (call dispatcher c (state_in l)).state (call_counted c (state_in l) (lent_counted l))

-- ---- the list

chained : (rs : List DispatchReport) (l : Lent) → Calls rs l → Chain dispatcher (reports rs l) (state_in l)
unfolding Calls reports Chain
chained [] l k = tt
chained (r ∷ rs) l k = (refl, subst (Chain dispatcher (reports rs r.left)) (left_is r l k.0) (chained rs r.left k.1))

answers_are : (rs : List DispatchReport) (l : Lent) → Calls rs l → AnswersAre rs l
unfolding Calls AnswersAre
answers_are [] l k = tt
answers_are (r ∷ rs) l k = (answer_is r l k.0, answers_are rs r.left k.1)

steps_in_all_are : (rs : List DispatchReport) (l : Lent) → Calls rs l → steps_reported rs ≡ steps_in_all dispatcher (reports rs l)
unfolding Calls reports steps_reported steps_in_all
steps_in_all_are [] l k = refl
steps_in_all_are (r ∷ rs) l k = λ i. steps_are r l k.0 i + steps_in_all_are rs r.left k.1 i

last_is : (rs : List DispatchReport) (l : Lent) → Calls rs l → state_in (last_left rs l) ≡ final dispatcher (reports rs l) (state_in l)
unfolding Calls reports last_left final
last_is [] l k = refl
last_is (r ∷ rs) l k = last_is rs r.left k.1 ∙ ap (final dispatcher (reports rs r.left)) (left_is r l k.0)

pub calls_are : CallsAre
calls_are rs l k = record { answers = answers_are rs l k; steps = steps_in_all_are rs l k; left = last_is rs l k }

-- ---- the demands

pub linked_demand_3 : LinkedDemand3
linked_demand_3 rs l k h = demand_3 (reports rs l) (state_in l) (chained rs l k) h

pub linked_query : LinkedQuery
unfolding state_in
linked_query rs l k h d e z rise topic key first last wanted out q =
    let file : (last_left rs l).files ≡ (final dispatcher (reports rs l) (state_in l)).index = ap (λ (s : State). s.index) (last_is rs l k) in
    rw (steps_in_all_are rs l k, file)
    (query_after_calls (reports rs l) (state_in l) (chained rs l k) h d e z (rw (steps_in_all_are rs l k) at rise) topic key first last wanted out q)
