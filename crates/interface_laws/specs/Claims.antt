-- Demands 2 and 3 of the functions that are linked, as statements. Assumes nothing.
use Rattle.std.specs.Prelude.{ℕ, ◌≡◌, true, List, [], length, take}
use Rattle.std.proofs.Math.Option.{some}
use Rattle.java_hash.specs.Hash.{index_hash}
use Rattle.index_query.specs.Query.{wanted_of, query_ok, queried}
use Rattle.index_query.specs.Claims.{Finds}
use Rattle.index_laws.specs.History.{Empty, items, SecondsRise, matches}
use Rattle.machine.specs.Calls.{Call, steps_in_all, final, passed, Steady, latest}
use Rattle.machine.specs.Claims.{Resumed}
use Rattle.dispatch.specs.Dispatch.{dispatcher}
use Rattle.dispatch_laws.specs.History.{puts}
use Rattle.swistopal.specs.Interface.{Lent, state_in}
use Rattle.interface_laws.specs.Calls.{DispatchReport, Calls, reports, steps_reported, last_left, AnswersAre}

-- a list of calls of `swistopal_dispatch` is one of the definition's calls: the same answers and steps, and the state that is left is what the last
-- one's progress, queues and files say
pub record Same (rs : List DispatchReport) (l : Lent) : Type 0 where
  pub answers : AnswersAre rs l
  pub steps : steps_reported rs ≡ steps_in_all dispatcher (reports rs l)
  pub left : state_in (last_left rs l) ≡ final dispatcher (reports rs l) (state_in l)

abbrev pub CallsAre : Type 0
CallsAre = (rs : List DispatchReport) (l : Lent) → Calls rs l → Same rs l

-- demand 3 of `swistopal_dispatch`
abbrev pub LinkedDemand3 : Type 0
LinkedDemand3 =
    (rs : List DispatchReport) (l : Lent) → Calls rs l → Steady dispatcher (reports rs l) (state_in l)
    → Resumed dispatcher (reports rs l) (state_in l)

-- demand 2's query clause, on the index file that such a list of calls left
abbrev pub LinkedQuery : Type 0
LinkedQuery =
    (rs : List DispatchReport) (l : Lent) → Calls rs l → Steady dispatcher (reports rs l) (state_in l)
    → (d : Call dispatcher) → latest (passed dispatcher (reports rs l) (state_in l)) ≡ some d
    → let k = d.fixed.sizes.index.slot_count in
    let n = d.fixed.sizes.index.item_count in
    let ps = puts d.fixed d.view (steps_reported rs) (state_in l) [] in
    Empty k n l.files → SecondsRise (items k ps)
    → (topic key : List ℕ) (first last wanted : ℕ) (out : List ℕ)
    → query_ok topic key first last (wanted_of wanted) (length out) ≡ true
    → Finds (take (wanted_of wanted) (matches k ps (index_hash topic key) first last)) out (queried k n (last_left rs l).files topic key first last wanted out)
