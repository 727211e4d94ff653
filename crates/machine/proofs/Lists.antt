-- A list of calls resumes, and its steps are bounded: `Resumes` and `Bounded`, by induction on the reports. Assumes nothing.
use Prim.Native.Nat.{ℕ, zero, suc, ◌+◌, ◌<◌}
use native.Mathlib.Nat.{zero-add}
use native.Mathlib.Omega.{arith}
use mathlib.Core.Path.{◌≡◌, refl, ◌∙◌, subst}
use mathlib.Core.Logic.{◌⊎◌, inl, inr, ⊎_elim}
use mathlib.Core.List.{List, [], ◌∷◌, ◌++◌}
use mathlib.Core.Option.{Option, none, some}
use Rattle.units.specs.declared.Answer.{Answer}
use Rattle.units.specs.declared.Answer.TheVariants.{BudgetSpent}
use Rattle.machine.specs.Steps.{Outcome, moved, stopped, Ran, and_then, iterate, run, Stops}
use Rattle.machine.specs.Calls.{Door, accepted, refused, Machine, Call, admit, keep_if, latest, Each, Pairs, door_at, step_at, call, with_budget}
use Rattle.machine.specs.Calls.{Report, Chain, steps_in_all, final, passed, Follows, Steady, EachStops, Leads}
use Rattle.machine.specs.Claims.{Laws, Resumes, Bounded}
use Rattle.machine.proofs.Steps.{never, walk_zero, walk_add, run_stopped, run_stops, walk_room}

module _ {A : Type 0} where
  -- a list that is not empty has a latest
  latest_some : (x : A) (xs : List A) → latest (x ∷ xs) ≡ none → ⊥
  unfolding latest
  latest_some x [] e = let z : ◌≡◌ {A = ℕ} 0 1 = cc in omega arith
  latest_some x (y ∷ ys) e = latest_some y ys e

  -- an element in front does not change the latest
  latest_cons : (x : A) (xs : List A) {c : A} → latest xs ≡ some c → latest (x ∷ xs) ≡ some c
  unfolding latest
  latest_cons x [] e = let z : ◌≡◌ {A = ℕ} 0 1 = cc in absurd (omega arith)
  latest_cons x (y ∷ ys) e = e

  -- what holds between each element and every later one holds between each and the latest
  pairs_latest : (R : A → A → Type 0) → ((x : A) → R x x) → (xs : List A) (c : A) → latest xs ≡ some c → Pairs R xs →
      Each (λ x. R x c) xs
  unfolding Pairs Each latest
  pairs_latest R r [] c e h = tt
  pairs_latest R r (x ∷ []) c e h = let p : x ≡ c = cc in (subst (R x) p (r x), tt)
  pairs_latest R r (x ∷ y ∷ ys) c e h = (each_latest y ys h.0 e, pairs_latest R r (y ∷ ys) c e h.1)
    where
      each_latest : (y : A) (ys : List A) → Each (R x) (y ∷ ys) → latest (y ∷ ys) ≡ some c → R x c
      each_latest y [] k l = let p : y ≡ c = cc in subst (R x) p k.0
      each_latest y (z ∷ zs) k l = each_latest z zs k.1 l

-- a call that does not answer that the budget is spent was stopped by a rule
by_rule : {S : Type 0} {step : S → Outcome S} {b : ℕ} {s : S} {r : Ran S} → (r.answer ≡ BudgetSpent → ⊥) →
    Stops step b s r → step r.state ≡ stopped r.answer
by_rule q st = ⊎_elim (λ w. absurd (q w.1)) (λ w. w.1) st.first

module _ (M : Machine) where
  pub call_accepted : (c : Call M) (s : M.State) → door_at M c s ≡ accepted → call M c s ≡ run (step_at M c) c.budget s
  unfolding call admit
  call_accepted c s e = rw e

  pub call_refused : (c : Call M) (s : M.State) {a : Answer} → door_at M c s ≡ refused a →
      call M c s ≡ record { answer = a; steps = zero; state = s }
  unfolding call admit
  call_refused c s e = rw e

  -- an accepted call that was made stops where the rules first stop it
  call_stops : (r : Report M) (s : M.State) → r.got ≡ call M r.made s → door_at M r.made s ≡ accepted →
      Stops (step_at M r.made) r.made.budget s r.got
  call_stops r s k e = rw (k ∙ call_accepted r.made s e) (run_stops (step_at M r.made) r.made.budget s)

  each_stops : (rs : List (Report M)) (s : M.State) → Chain M rs s → EachStops M rs s
  unfolding Chain EachStops
  each_stops [] s k = tt
  each_stops (r ∷ rs) s k = (call_stops r s k.0, each_stops rs r.got.state k.1)

  -- the last call of a list got what the others leave
  chain_last : (rs : List (Report M)) (r : Report M) (s : M.State) → Chain M (rs ++ r ∷ []) s → r.got ≡ call M r.made (final M rs s)
  unfolding Chain final
  chain_last [] r s k = k.0
  chain_last (q ∷ rs) r s k = chain_last rs r q.got.state k.1

  -- the list leaves what its last call left
  final_last : (rs : List (Report M)) (r : Report M) (s : M.State) → final M (rs ++ r ∷ []) s ≡ r.got.state
  unfolding final
  final_last [] r s = refl
  final_last (q ∷ rs) r s = final_last rs r q.got.state

  -- a last call that is accepted is the last accepted call
  passed_last : (rs : List (Report M)) (r : Report M) (s : M.State) → door_at M r.made (final M rs s) ≡ accepted →
      latest (passed M (rs ++ r ∷ []) s) ≡ some r.made
  unfolding final passed keep_if latest
  passed_last [] r s e = rw e
  passed_last (q ∷ rs) r s e = go (door_at M q.made s) (passed_last rs r q.got.state e)
    where
      go : (o : Door) → latest (passed M (rs ++ r ∷ []) q.got.state) ≡ some r.made →
          latest (keep_if o q.made (passed M (rs ++ r ∷ []) q.got.state)) ≡ some r.made
      go accepted ih = latest_cons q.made (passed M (rs ++ r ∷ []) q.got.state) ih
      go (refused a) ih = ih

  -- cs being the accepted calls: there are none and nothing moved, or the first of them got the start
  abbrev Begins : List (Call M) → ℕ → M.State → M.State → Type 0
  Begins cs n s t =
      ((cs ≡ []) × (n ≡ 0) × (t ≡ s)) ⊎ ((c : Call M) × (ds : List (Call M)) × (cs ≡ c ∷ ds) × (door_at M c s ≡ accepted))

  begins : (rs : List (Report M)) (s : M.State) → Chain M rs s → Begins (passed M rs s) (steps_in_all M rs) s (final M rs s)
  unfolding Chain passed steps_in_all final keep_if
  begins [] s k = inl (refl, refl, refl)
  begins (r ∷ rs) s k = go (door_at M r.made s) refl (begins rs r.got.state k.1)
    where
      go : (o : Door) → door_at M r.made s ≡ o →
          Begins (passed M rs r.got.state) (steps_in_all M rs) r.got.state (final M rs r.got.state) →
          Begins (keep_if o r.made (passed M rs r.got.state)) (r.got.steps + steps_in_all M rs) s (final M rs r.got.state)
      go accepted e ih = inr (r.made, passed M rs r.got.state, refl, e)
      go (refused a) e ih = let g = k.0 ∙ call_refused r.made s e in rw (g, zero-add) (rw g at ih)

module _ (M : Machine) (L : Laws M) where
  -- steps over a view are steps over each view that extends it
  walk_stable : (f : M.Fixed) (v w : M.View) → M.Extends f v w → (n : ℕ) (s t : M.State) → L.Holds f s →
      iterate (M.step f v) n s ≡ moved t → iterate (M.step f w) n s ≡ moved t
  unfolding iterate and_then
  walk_stable f v w x zero s t k h = h
  walk_stable f v w x (suc n) s t k h = go (M.step f v s) refl (walk_stable f v w x n) h
    where
      go : (o : Outcome M.State) → M.step f v s ≡ o →
          ((s t : M.State) → L.Holds f s → iterate (M.step f v) n s ≡ moved t → iterate (M.step f w) n s ≡ moved t) →
          and_then o (iterate (M.step f v) n) ≡ moved t → and_then (M.step f w s) (iterate (M.step f w) n) ≡ moved t
      go (moved u) e ih g = rw (L.stable f v w s u k x e) (ih u t (L.kept f v s u k e) g)
      go (stopped a) e ih g = never g

  -- calls that d may follow are together a iterate over d's view
  carried : (d : Call M) (rs : List (Report M)) (s : M.State) → Chain M rs s → Each (λ c. Follows M c d) (passed M rs s) →
      iterate (step_at M d) (steps_in_all M rs) s ≡ moved (final M rs s)
  unfolding Chain passed steps_in_all final keep_if Each
  carried d [] s k h = walk_zero (step_at M d) s
  carried d (r ∷ rs) s k h = go (door_at M r.made s) refl (carried d rs r.got.state k.1) h
    where
      c : Call M
      c = r.made

      go : (o : Door) → door_at M c s ≡ o →
          (Each (λ c. Follows M c d) (passed M rs r.got.state) →
          iterate (step_at M d) (steps_in_all M rs) r.got.state ≡ moved (final M rs r.got.state)) →
          Each (λ c. Follows M c d) (keep_if o c (passed M rs r.got.state)) →
          iterate (step_at M d) (r.got.steps + steps_in_all M rs) s ≡ moved (final M rs r.got.state)
      go accepted e ih h =
          walk_add (step_at M d) r.got.steps (steps_in_all M rs) s
          (rw (← h.0.same)
          (walk_stable c.fixed c.view d.view h.0.grown r.got.steps s r.got.state
          (L.opened c.fixed c.view s e)
          (call_stops M r s k.0 e).walked))
          ∙ ih h.1
      go (refused a) e ih h =
          walk_add (step_at M d) r.got.steps (steps_in_all M rs) s (rw (k.0 ∙ call_refused M c s e) (walk_zero (step_at M d) s)) ∙ ih h

  -- the last accepted call may follow each accepted one
  follows_latest : (rs : List (Report M)) (s : M.State) → Steady M rs s → (d : Call M) → latest (passed M rs s) ≡ some d →
      Each (λ c. Follows M c d) (passed M rs s)
  unfolding Steady
  follows_latest rs s h d e =
      pairs_latest (Follows M) (λ c. record { same = refl; grown = L.reflexive c.fixed c.view }) (passed M rs s) d e h

  -- the first accepted call got the start, over a view that the last accepted one's extends
  first_view : (rs : List (Report M)) (s : M.State) → Chain M rs s → Steady M rs s → (d : Call M) → latest (passed M rs s) ≡ some d →
      (v : M.View) × M.Extends d.fixed v d.view × (M.door d.fixed v s ≡ accepted)
  unfolding Each latest
  first_view rs s k h d e =
      ⊎_elim
      (λ w. let z : ◌≡◌ {A = ℕ} 0 1 = cc (rw w.0 at e) in absurd (omega arith))
      (λ w. let f : Follows M w.0 d = (rw w.2 at (follows_latest rs s h d e)).0 in
      (w.0.view, rw f.same at f.grown, rw (f.same, door_at) at w.3))
      (begins M rs s k)

  whole : (rs : List (Report M)) (s : M.State) → Chain M rs s → Steady M rs s →
      Leads M (latest (passed M rs s)) (steps_in_all M rs) s (final M rs s)
  unfolding Leads
  whole rs s k h = go (latest (passed M rs s)) refl
    where
      go : (o : Option (Call M)) → latest (passed M rs s) ≡ o → Leads M o (steps_in_all M rs) s (final M rs s)
      go none e = ⊎_elim (λ w. (w.1, w.2)) (λ w. absurd (latest_some w.0 w.1 (rw w.2 at e))) (begins M rs s k)
      go (some d) e = carried d rs s k (follows_latest rs s h d e)

  -- one call does what the whole list did, if a rule stopped the last
  once : (rs : List (Report M)) (r : Report M) (s : M.State) → Chain M (rs ++ r ∷ []) s → Steady M (rs ++ r ∷ []) s →
      door_at M r.made (final M rs s) ≡ accepted →
      (r.got.answer ≡ BudgetSpent → ⊥) →
      (b : ℕ) → steps_in_all M (rs ++ r ∷ []) < b →
      call M (with_budget M r.made b) s
      ≡ record { answer = r.got.answer; steps = steps_in_all M (rs ++ r ∷ []); state = final M (rs ++ r ∷ []) s }
  once rs r s k h e q b l =
      let d : Call M = r.made in
      let p : latest (passed M (rs ++ r ∷ []) s) ≡ some d = passed_last M rs r s e in
      let v = first_view (rs ++ r ∷ []) s k h d p in
      call_accepted M (with_budget M d b) s (L.reopened d.fixed v.0 d.view s (final M rs s) v.1 v.2 e)
      ∙ run_stopped (step_at M d) (steps_in_all M (rs ++ r ∷ [])) b s (carried d (rs ++ r ∷ []) s k (follows_latest (rs ++ r ∷ []) s h d p))
      (rw (final_last M rs r s) (by_rule q (call_stops M r (final M rs s) (chain_last M rs r s k) e))) l

pub resumes : Resumes
resumes M L rs s k h =
    record {
      each = each_stops M rs s k;
      whole = whole M L rs s k h;
      once = λ before r e. rw e (once M L before r s (rw e at k) (rw e at h));
    }

pub bounded : Bounded
bounded M L C rs s k h d e =
    let v = first_view M L rs s k h d e in
    omega (
      arith,
      walk_room (step_at M d) (L.Holds d.fixed) C.height (C.limit d.view)
          (λ a b p m. (L.kept d.fixed d.view a b p m, (C.climbs d.fixed d.view a b p m).0, (C.climbs d.fixed d.view a b p m).1))
          (steps_in_all M rs) s (final M rs s)
          (L.opened d.fixed v.0 s v.2)
          (carried M L d rs s k (follows_latest M L rs s h d e)),
    )
