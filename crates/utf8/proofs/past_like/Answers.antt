-- `utf8::past_like` meets its contract: the bytes of each row tell the size. Assumes nothing.
use Rattle.std.proofs.Common.{rules, tests}
use Rattle.utf8.proofs.Chars.{sized1, sized2, sized3, sized4}
use Rattle.utf8.proofs.past_like.Goals as goal

pub past-requires-clause-told : goal.past-requires-clause-told
past-requires-clause-told c = λ i h e. sized1 c.args.s.now i (search (rules, tests))

pub past-requires-in-2-clause-told : goal.past-requires-in-2-clause-told
past-requires-in-2-clause-told c = λ i h e. sized2 c.args.s.now i (search rules)

pub past-requires-in-3-clause-told : goal.past-requires-in-3-clause-told
past-requires-in-3-clause-told c = λ i h e. sized3 c.args.s.now i (search rules)

pub past-requires-in-4-clause-told : goal.past-requires-in-4-clause-told
past-requires-in-4-clause-told c = λ i h e. sized4 c.args.s.now i (search rules)
