-- The answers' numbers: document 01, section "Answer numbers". Assumes nothing.
use Rattle.std.specs.Prelude.{ℕ, zero, suc, Option, None, Some, List, [], ◌∷◌, ◌++◌, codes, decimal}
use Rattle.units.specs.declared.Answer.{Answer}
use Rattle.units.specs.declared.Answer.TheVariants.{Done, BadSizes, BadPosition, BadDirectory, BadHeader, BadRequest, LogFull, BlankWritten, NotReadable, BudgetSpent, Damaged, QueueNotListed, OutOfStep, QueueFull, IndexFull, IndexAhead, ChainBroken, Malformed}

abbrev pub number_of : Answer → ℕ
number_of Done = 0
number_of BadSizes = 1
number_of BadPosition = 2
number_of BadDirectory = 3
number_of BadHeader = 4
number_of BadRequest = 5
number_of LogFull = 6
number_of BlankWritten = 7
number_of NotReadable = 8
number_of BudgetSpent = 9
number_of Damaged = 10
number_of QueueNotListed = 11
number_of OutOfStep = 12
number_of QueueFull = 13
number_of IndexFull = 14
number_of IndexAhead = 15
number_of ChainBroken = 16
number_of Malformed = 17

-- the table's rows
unfoldable pub answers : List Answer
answers =
    Done ∷ BadSizes ∷ BadPosition ∷ BadDirectory ∷ BadHeader ∷ BadRequest ∷ LogFull ∷ BlankWritten ∷ NotReadable ∷ BudgetSpent ∷ Damaged
    ∷ QueueNotListed ∷ OutOfStep ∷ QueueFull ∷ IndexFull ∷ IndexAhead ∷ ChainBroken ∷ Malformed ∷ []

unfoldable pub row_at : ℕ → List Answer → Option Answer
row_at n [] = None
row_at zero (a ∷ rest) = Some a
row_at (suc n) (a ∷ rest) = row_at n rest

-- the answer in the table's row n, if there is that row
unfoldable pub answer_of : ℕ → Option Answer
answer_of n = row_at n answers

-- what is said of a number that no answer has
abbrev pub unknown_text : ℕ → List ℕ
unknown_text n = codes "no answer has number " ++ decimal n
