-- What a checked answer tells: Done passes, every other answer refuses. Assumes nothing.
use mathlib.Core.Path.{◌≡◌, refl, ap, ◌∙◌}
use native.Mathlib.Omega.{arith}
use Rattle.std.proofs.Common.{◌⊎◌, inl, inr, Result, Ok, Err}
use Rattle.units.specs.declared.Answer.{Answer}
use Rattle.units.specs.declared.Answer.TheVariants.{Done, BadSizes, BadPosition, BadDirectory, BadHeader, BadRequest, LogFull, BlankWritten, NotReadable, BudgetSpent, Damaged, QueueNotListed, OutOfStep, QueueFull, IndexFull, IndexAhead, ChainBroken, Malformed}
use Rattle.units.specs.Answers.{number_of}
use Rattle.units.specs.Checked.{checked}

-- an answer that is not Done has another number than 0
record Refuses (a : Answer) : Type 0 where
  numbered : number_of a ≡ 0 → ⊥
  checks : checked a ≡ Err a

ways : (a : Answer) → (a ≡ Done) ⊎ Refuses a
unfolding checked
ways Done = inl refl
ways BadSizes = inr (record { numbered = λ e. omega arith; checks = refl })
ways BadPosition = inr (record { numbered = λ e. omega arith; checks = refl })
ways BadDirectory = inr (record { numbered = λ e. omega arith; checks = refl })
ways BadHeader = inr (record { numbered = λ e. omega arith; checks = refl })
ways BadRequest = inr (record { numbered = λ e. omega arith; checks = refl })
ways LogFull = inr (record { numbered = λ e. omega arith; checks = refl })
ways BlankWritten = inr (record { numbered = λ e. omega arith; checks = refl })
ways NotReadable = inr (record { numbered = λ e. omega arith; checks = refl })
ways BudgetSpent = inr (record { numbered = λ e. omega arith; checks = refl })
ways Damaged = inr (record { numbered = λ e. omega arith; checks = refl })
ways QueueNotListed = inr (record { numbered = λ e. omega arith; checks = refl })
ways OutOfStep = inr (record { numbered = λ e. omega arith; checks = refl })
ways QueueFull = inr (record { numbered = λ e. omega arith; checks = refl })
ways IndexFull = inr (record { numbered = λ e. omega arith; checks = refl })
ways IndexAhead = inr (record { numbered = λ e. omega arith; checks = refl })
ways ChainBroken = inr (record { numbered = λ e. omega arith; checks = refl })
ways Malformed = inr (record { numbered = λ e. omega arith; checks = refl })

-- no answer but Done has number 0
pub done_only : (a : Answer) → number_of a ≡ 0 → a ≡ Done
done_only a e = elim (ways a) [ inl d ↦ d | inr r ↦ absurd (r.numbered e) ]

pub checked_passed : {u : Unit {0}} (a : Answer) → Ok u ≡ checked a → a ≡ Done
checked_passed {u} a e = elim (ways a) [ inl d ↦ d | inr r ↦ let z = r.checks in cc ]

pub checked_refused : {b : Answer} (a : Answer) → Err b ≡ checked a → (a ≡ b) × (number_of a ≡ 0 → ⊥)
unfolding checked
checked_refused {b} a e = elim (ways a) [ inl d ↦ absurd (let f : ◌≡◌ {A = Result (Unit {0}) Answer} (Err b) (Ok tt) = e ∙ ap checked d in cc) | inr r ↦ (let z = r.checks in cc, r.numbered) ]
