-- What holds of dispatch, as statements: demand 3, and demand 2's query clause over lists of dispatch calls. Assumes nothing.
use Rattle.std.specs.Prelude.{ℕ, ◌<◌, ◌≡◌, true, List, [], length, take}
use Rattle.std.proofs.Math.Option.{some}
use Rattle.units.specs.declared.Answer.TheVariants.{BudgetSpent}
use Rattle.java_hash.specs.Hash.{index_hash}
use Rattle.index_query.specs.Query.{wanted_of, query_ok, queried}
use Rattle.index_laws.specs.History.{Empty, Put, build, items, SecondsRise, TimesRise, matches}
use Rattle.index_laws.specs.Claims.{Built}
use Rattle.index_query.specs.Claims.{Finds}
use Rattle.machine.specs.Steps.{stopped}
use Rattle.machine.specs.Calls.{accepted, Call, door_at, call, Report, Chain, steps_in_all, final, passed, Steady, latest}
use Rattle.machine.specs.Claims.{Resumed}
use Rattle.dispatch_request.specs.Request.{View}
use Rattle.dispatch_step.specs.Step.{Fixed, State, step_of}
use Rattle.dispatch.specs.Dispatch.{dispatcher}
use Rattle.dispatch_laws.specs.History.{puts}

-- demand 3, whole: of every list of calls that were made, each report being what `dispatch` promises of its arguments
abbrev pub Demand3 : Type 0
Demand3 = (rs : List (Report dispatcher)) (s : State) → Chain dispatcher rs s → Steady dispatcher rs s → Resumed dispatcher rs s

-- "a budget above n": there is one from 0 to 2^64−1
abbrev pub BudgetAbove : Type 0
BudgetAbove = (rs : List (Report dispatcher)) (s : State) → Chain dispatcher rs s → Steady dispatcher rs s → steps_in_all dispatcher rs < 18446744073709551615

-- "any cause but a spent budget": no rule gives 9
abbrev pub NeverSpent : Type 0
NeverSpent = (f : Fixed) (v : View) (s : State) → step_of f v s ≡ stopped BudgetSpent → ⊥

-- "built from empty": what an accepted call leaves on an index so built is again so built, by the items of the records that its steps passed besides
abbrev pub CallBuilds : Type 0
CallBuilds =
    (c : Call dispatcher) (s : State) (start : List ℕ) (ps : List Put) → door_at dispatcher c s ≡ accepted
    → let k = c.fixed.sizes.index.slot_count in
    let n = c.fixed.sizes.index.item_count in
    let r = call dispatcher c s in
    let qs = puts c.fixed c.view r.steps s ps in
    Built k n start ps → s.index ≡ build k start ps → Built k n start qs × (r.state.index ≡ build k start qs)

-- demand 2: "On an index built from empty, recorded seconds never falling, a query returns exactly the newest items with the key's hash and a
-- recorded time in the range, newest first, up to the number asked": built by any list as in demand 3, the items being those of the records that its
-- steps passed
abbrev pub QueryAfterCalls : Type 0
QueryAfterCalls =
    (rs : List (Report dispatcher)) (s : State) → Chain dispatcher rs s → Steady dispatcher rs s
    → (d : Call dispatcher) → latest (passed dispatcher rs s) ≡ some d
    → let k = d.fixed.sizes.index.slot_count in
    let n = d.fixed.sizes.index.item_count in
    let ps = puts d.fixed d.view (steps_in_all dispatcher rs) s [] in
    Empty k n s.index → SecondsRise (items k ps)
    → (topic key : List ℕ) (first last wanted : ℕ) (out : List ℕ)
    → query_ok topic key first last (wanted_of wanted) (length out) ≡ true
    → Finds (take (wanted_of wanted) (matches k ps (index_hash topic key) first last)) out (queried k n (final dispatcher rs s).index topic key first last wanted out)

-- the same of store times that never fall, from which recorded seconds never fall
abbrev pub QueryAfterRisingTimes : Type 0
QueryAfterRisingTimes =
    (rs : List (Report dispatcher)) (s : State) → Chain dispatcher rs s → Steady dispatcher rs s
    → (d : Call dispatcher) → latest (passed dispatcher rs s) ≡ some d
    → let k = d.fixed.sizes.index.slot_count in
    let n = d.fixed.sizes.index.item_count in
    let ps = puts d.fixed d.view (steps_in_all dispatcher rs) s [] in
    Empty k n s.index → TimesRise ps
    → (topic key : List ℕ) (first last wanted : ℕ) (out : List ℕ)
    → query_ok topic key first last (wanted_of wanted) (length out) ≡ true
    → Finds (take (wanted_of wanted) (matches k ps (index_hash topic key) first last)) out (queried k n (final dispatcher rs s).index topic key first last wanted out)
