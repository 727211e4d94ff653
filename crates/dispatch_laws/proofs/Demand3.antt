-- Demand 3: any list of dispatch calls resumes, and has fewer steps than a budget may have. Assumes nothing.
use Prim.Native.Nat.{ℕ, ◌≤◌, ◌<◌}
use mathlib.Core.Path.{◌≡◌, refl, subst}
use mathlib.Core.List.{List, [], ◌∷◌}
use mathlib.Core.Option.{Option, none, some}
use native.Mathlib.Omega.{arith}
use Rattle.machine.specs.Calls.{Door, accepted, refused, Machine, Call, keep_if, latest, door_at, Report, Chain, steps_in_all, final, passed, Steady, Leads}
use Rattle.machine.specs.Claims.{Laws, Climbs}
use Rattle.machine.proofs.Lists.{resumes, bounded}
use Rattle.dispatch_request.specs.Request.{View}
use Rattle.dispatch_step.specs.Step.{Fixed, State, position_of, written, moved_by}
use Rattle.dispatch_step.specs.Inner.{Moves, over_blank, over_record}
use Rattle.dispatch_step.proofs.Moves.{moves}
use Rattle.dispatch.specs.Dispatch.{dispatcher}
use Rattle.dispatch_laws.specs.Claims.{Demand3, BudgetAbove}
use Rattle.dispatch_laws.proofs.DoorStays.{opened, bounded_log, reopened}
use Rattle.dispatch_laws.proofs.Stable.{stable}

-- a step climbs, not past the readable end
climb : (f : Fixed) (v : View) (s t : State) → Moves f v s t → (position_of s < position_of t) × (position_of t ≤ v.end.0)
unfolding moved_by written
climb f v s t (over_blank n h l k m) = rw m (omega arith, k)
climb f v s t (over_record q hs h d) = rw d.left (omega (arith, d.least), d.below)

abbrev Holds : Fixed → State → Type 0
Holds f s = f.sizes.geometry.first_position.0 ≤ position_of s

laws : Laws dispatcher
laws =
    record {
      Holds = Holds;
      opened = λ f v s e. (opened f v s e).placed.from;
      kept = λ f v s t h e. omega (arith, h, (climb f v s t (moves f v s t e)).0);
      stable = stable;
      reopened = reopened;
      reflexive = λ f v. record { size = refl; grows = omega arith; stay = λ k l. refl };
    }

climbs : Climbs dispatcher laws
climbs =
    record {
      height = λ s. position_of s;
      limit = λ v. v.end.0;
      climbs = λ f v s t h e. climb f v s t (moves f v s t e);
    }

pub demand_3 : Demand3
demand_3 = resumes dispatcher laws

-- the last accepted call was accepted at some state
pub accepted_at : (M : Machine) (rs : List (Report M)) (s : M.State) (d : Call M) → latest (passed M rs s) ≡ some d → (t : M.State) × (door_at M d t ≡ accepted)
unfolding passed keep_if latest
accepted_at M [] s d e = absurd (let z : ◌≡◌ {A = ℕ} 0 1 = cc in omega arith)
accepted_at M (r ∷ rs) s d e = go (door_at M r.made s) refl (passed M rs r.got.state) (accepted_at M rs r.got.state d) e
  where
    go : (o : Door) → door_at M r.made s ≡ o → (cs : List (Call M)) → (latest cs ≡ some d → (t : M.State) × (door_at M d t ≡ accepted)) →
        latest (keep_if o r.made cs) ≡ some d → (t : M.State) × (door_at M d t ≡ accepted)
    go (refused a) h cs ih e = ih e
    go accepted h [] ih e = let same : r.made ≡ d = cc in (s, subst (λ c. door_at M c s ≡ accepted) same h)
    go accepted h (c ∷ cs) ih e = ih e

-- so its readable end, and with it the number of all steps, is at most 2^40
steps_few : (rs : List (Report dispatcher)) (s : State) → Chain dispatcher rs s → Steady dispatcher rs s → steps_in_all dispatcher rs ≤ 1099511627776
unfolding Leads climbs
steps_few rs s k h = go (latest (passed dispatcher rs s)) refl (demand_3 rs s k h).whole
  where
    go : (o : Option (Call dispatcher)) → latest (passed dispatcher rs s) ≡ o → Leads dispatcher o (steps_in_all dispatcher rs) s (final dispatcher rs s) →
        steps_in_all dispatcher rs ≤ 1099511627776
    go none e w = omega (arith, w.0)
    go (some d) e w =
        let t = accepted_at dispatcher rs s d e in
        let b = bounded dispatcher laws climbs rs s k h d e in
        omega (arith, b, (opened d.fixed d.view t.0 t.1).placed.end, (bounded_log d.fixed d.view t.0 t.1).top)

pub budget_above : BudgetAbove
budget_above rs s k h = omega (arith, steps_few rs s k h)
