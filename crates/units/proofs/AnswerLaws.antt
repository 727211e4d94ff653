-- Answers and numbers: there and back. Assumes nothing.
use Prim.Native.Nat.{ℕ, zero, suc, ◌+◌}
use mathlib.Core.Path.{◌≡◌, refl, ◌∙◌}
use mathlib.Core.List.{List, [], ◌∷◌}
use native.Mathlib.Omega.{arith}
use Rattle.units.specs.declared.Answer.{Answer}
use Rattle.units.specs.declared.Answer.TheVariants.{Done, BadSizes, BadPosition, BadDirectory, BadHeader, BadRequest, LogFull, BlankWritten, NotReadable, BudgetSpent, Damaged, QueueNotListed, OutOfStep, QueueFull, IndexFull, IndexAhead, ChainBroken, Malformed}
use Rattle.std.specs.Prelude.{Some}
use Rattle.units.specs.Answers.{number_of, answers, row_at, answer_of}
use Rattle.units.specs.Claims.{AnswerNumber, NumberAnswer}

pub answer_number : AnswerNumber
unfolding answer_of row_at answers
answer_number Done = refl
answer_number BadSizes = refl
answer_number BadPosition = refl
answer_number BadDirectory = refl
answer_number BadHeader = refl
answer_number BadRequest = refl
answer_number LogFull = refl
answer_number BlankWritten = refl
answer_number NotReadable = refl
answer_number BudgetSpent = refl
answer_number Damaged = refl
answer_number QueueNotListed = refl
answer_number OutOfStep = refl
answer_number QueueFull = refl
answer_number IndexFull = refl
answer_number IndexAhead = refl
answer_number ChainBroken = refl
answer_number Malformed = refl

-- each row's number is one more than the row's before
abbrev Ordered : ℕ → List Answer → Type 0
Ordered k [] = Unit {0}
Ordered k (a ∷ rows) = (number_of a ≡ k) × Ordered (suc k) rows

row_number : (k n : ℕ) (rows : List Answer) (a : Answer) → Ordered k rows → row_at n rows ≡ Some a → number_of a ≡ k + n
unfolding row_at
row_number k n [] a o e = absurd (let z : ◌≡◌ {A = ℕ} 0 1 = cc in omega arith)
row_number k zero (b ∷ rows) a o e = let same : b ≡ a = cc in rw same at o.0 ∙ omega arith
row_number k (suc n) (b ∷ rows) a o e = row_number (suc k) n rows a o.1 e ∙ omega arith

pub number_answer : NumberAnswer
unfolding answer_of answers
number_answer n a e = row_number 0 n answers a (refl, (refl, (refl, (refl, (refl, (refl, (refl, (refl, (refl, (refl, (refl, (refl, (refl, (refl, (refl, (refl, (refl, (refl, tt)))))))))))))))))) e ∙ omega arith
