-- The answers' numbers, there and back, as statements. Assumes nothing.
use Rattle.std.specs.Prelude.{ℕ, ◌≡◌, Some}
use Rattle.units.specs.declared.Answer.{Answer}
use Rattle.units.specs.Answers.{number_of, answer_of}

-- an answer's number stands for that answer, so no two answers share a number
abbrev pub AnswerNumber : Type 0
AnswerNumber = (a : Answer) → answer_of (number_of a) ≡ Some a

-- the answer that a number stands for has that number
abbrev pub NumberAnswer : Type 0
NumberAnswer = (n : ℕ) (a : Answer) → answer_of n ≡ Some a → number_of a ≡ n
