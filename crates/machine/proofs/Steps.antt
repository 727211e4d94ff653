-- Laws of `iterate` and `run`: a iterate goes on where another ended; a run is the iterate up to its first stop. Assumes nothing.
use Prim.Native.Nat.{ℕ, zero, suc, ◌+◌, ◌-◌, ◌<◌, ◌≤◌}
use native.Mathlib.Nat.{zero-add, suc-add}
use native.Mathlib.Omega.{arith}
use mathlib.Core.Path.{◌≡◌, refl, sym, ◌∙◌, ap, subst}
use mathlib.Core.Logic.{inl, inr, ⊎_elim}
use Rattle.units.specs.declared.Answer.{Answer}
use Rattle.units.specs.declared.Answer.TheVariants.{BudgetSpent}
use Rattle.machine.specs.Steps.{Outcome, moved, stopped, Ran, and_then, iterate, one_more, ran_from, run, Stops}

module _ {S : Type 0} where
  pub moved_inj : {s t : S} → moved s ≡ moved t → s ≡ t
  moved_inj e = cc

  -- `moved` is not `stopped`
  pub never : {A : Type 0} {a : Answer} {t : S} → stopped a ≡ moved t → A
  never {A} e = absurd (let z : ◌≡◌ {A = ℕ} 0 1 = cc in omega arith)

module _ {S : Type 0} (step : S → Outcome S) where
  -- a iterate of no steps stays
  pub walk_zero : (s : S) → iterate step zero s ≡ moved s
  unfolding iterate
  walk_zero s = refl

  -- m steps and then n are m + n
  pub walk_add : (m n : ℕ) (s : S) {t : S} → iterate step m s ≡ moved t → iterate step (m + n) s ≡ iterate step n t
  unfolding iterate and_then
  walk_add zero n s {t} h = rw zero-add (ap (iterate step n) (moved_inj h))
  walk_add (suc m) n s {t} h = rw suc-add (go (step s) (λ u e. walk_add m n u e) h)
    where
      go : (o : Outcome S) → ((u : S) → iterate step m u ≡ moved t → iterate step (m + n) u ≡ iterate step n t) →
          and_then o (iterate step m) ≡ moved t → and_then o (iterate step (m + n)) ≡ iterate step n t
      go (moved u) ih e = ih u e
      go (stopped a) ih e = never e

  -- one step more, counted as code counts
  pub walk_more : (k : ℕ) (s : S) {t u : S} → iterate step k s ≡ moved t → step t ≡ moved u → iterate step (k + 1) s ≡ moved u
  unfolding iterate and_then
  walk_more k s {t} {u} h e = walk_add k 1 s h ∙ rw e

  -- the budget is spent
  pub run_spent : (b : ℕ) (s : S) {t : S} → iterate step b s ≡ moved t →
      run step b s ≡ record { answer = BudgetSpent; steps = b; state = t }
  unfolding iterate run and_then ran_from one_more
  run_spent zero s h = λ i. record { answer = BudgetSpent; steps = zero; state = moved_inj h i }
  run_spent (suc b) s {t} h = go (step s) (λ u e. run_spent b u e) h
    where
      go : (o : Outcome S) →
          ((u : S) → iterate step b u ≡ moved t → run step b u ≡ record { answer = BudgetSpent; steps = b; state = t }) →
          and_then o (iterate step b) ≡ moved t →
          ran_from o s (run step b) ≡ record { answer = BudgetSpent; steps = suc b; state = t }
      go (moved u) ih e = ap one_more (ih u e)
      go (stopped a) ih e = never e

  -- a rule stops the next step
  pub run_stopped : (k b : ℕ) (s : S) {t : S} {a : Answer} → iterate step k s ≡ moved t → step t ≡ stopped a → k < b →
      run step b s ≡ record { answer = a; steps = k; state = t }
  unfolding iterate run and_then ran_from one_more
  run_stopped k zero s h e l = absurd (omega arith)
  run_stopped zero (suc b) s {t} {a} h e l =
      rw (ap step (moved_inj h) ∙ e) (λ i. record { answer = a; steps = zero; state = moved_inj h i })
  run_stopped (suc k) (suc b) s {t} {a} h e l = go (step s) (λ u w. run_stopped k b u w e (omega arith)) h
    where
      go : (o : Outcome S) →
          ((u : S) → iterate step k u ≡ moved t → run step b u ≡ record { answer = a; steps = k; state = t }) →
          and_then o (iterate step k) ≡ moved t →
          ran_from o s (run step b) ≡ record { answer = a; steps = suc k; state = t }
      go (moved u) ih w = ap one_more (ih u w)
      go (stopped c) ih w = never w

  -- a run stops where the rules first stop it
  pub run_stops : (b : ℕ) (s : S) → Stops step b s (run step b s)
  unfolding iterate run and_then ran_from one_more
  run_stops zero s = record { walked = refl; first = inl (refl, refl) }
  run_stops (suc b) s = go (step s) refl (run_stops b)
    where
      go : (o : Outcome S) → step s ≡ o → ((u : S) → Stops step b u (run step b u)) →
          Stops step (suc b) s (ran_from o s (run step b))
      go (moved u) e ih = record {
        walked = rw e (ih u).walked;
        first = ⊎_elim (λ w. inl (rw w.0, w.1)) (λ w. inr (omega (arith, w.0), w.1)) (ih u).first;
      }
      go (stopped c) e ih = record { walked = refl; first = inr (omega arith, e) }

  -- `Stops` leaves no choice: what it holds of is the run
  pub stops_run : (b : ℕ) (s : S) (r : Ran S) → Stops step b s r → r ≡ run step b s
  stops_run b s r h =
      ⊎_elim
      (λ w. rw (run_spent b s {t = r.state} (rw (← w.0) h.walked)) (λ i. record { answer = w.1 i; steps = w.0 i; state = r.state }))
      (λ w. sym (run_stopped r.steps b s h.walked w.1 w.0))
      h.first

  -- what each step keeps, a iterate keeps
  pub walk_keeps : (P : S → Type 0) → ((s t : S) → P s → step s ≡ moved t → P t) → (n : ℕ) (s t : S) → P s →
      iterate step n s ≡ moved t → P t
  unfolding iterate and_then
  walk_keeps P k zero s t p h = subst P (moved_inj h) p
  walk_keeps P k (suc n) s t p h = go (step s) refl (walk_keeps P k n) h
    where
      go : (o : Outcome S) → step s ≡ o → ((s t : S) → P s → iterate step n s ≡ moved t → P t) →
          and_then o (iterate step n) ≡ moved t → P t
      go (moved u) e ih w = ih u t (k s u p e) w
      go (stopped a) e ih w = never w

  -- where each step climbs and none climbs past the top, a iterate has no more steps than there is room
  pub walk_room : (P : S → Type 0) (height : S → ℕ) (top : ℕ) →
      ((s t : S) → P s → step s ≡ moved t → P t × (height s < height t) × (height t ≤ top)) →
      (n : ℕ) (s t : S) → P s → iterate step n s ≡ moved t → n ≤ top - height s
  unfolding iterate and_then
  walk_room P height top k zero s t p h = omega arith
  walk_room P height top k (suc n) s t p h = go (step s) refl (walk_room P height top k n) h
    where
      go : (o : Outcome S) → step s ≡ o → ((s t : S) → P s → iterate step n s ≡ moved t → n ≤ top - height s) →
          and_then o (iterate step n) ≡ moved t → suc n ≤ top - height s
      go (moved u) e ih w = omega (arith, (k s u p e).1, (k s u p e).2, ih u t (k s u p e).0 w)
      go (stopped a) e ih w = never w
